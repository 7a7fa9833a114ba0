use Rattle.std.proofs.Common.{◌≡◌, Some, length, ap, arith}
use Rattle.meta_file_declare.specs.Places.{place_of_fault}
use Rattle.meta_program.proofs.ItemLines.{fault_within}
use Rattle.meta_program.proofs.loading.faulty.Goals as goal

pub unreachable-requires : goal.unreachable-requires
unreachable-requires c =
    let has = c.requires.item.1 in
    let is = has.item in
    let items = c.deref.ensures.value in
    let none = c.in_default.ensures in
    absurd (cc)

pub line_of-line-requires : goal.line_of-line-requires
line_of-line-requires c =
    let items = c.deref.ensures.value in
    let found = c.in-Some.ensures in
    let at : place_of_fault c.args.items.now.items.items c.args.fault.now ≡ Some c.in-Some.place = cc in
    omega (
      arith,
      fault_within c.args.items.now.items.items c.requires.item.0 c.args.fault.now c.in-Some.place c.requires.item.1 at,
      ap length c.deref-2.ensures.value,
      c.requires.lines,
    )
