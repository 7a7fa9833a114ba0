use Rattle.std.proofs.Common.{◌≡◌, ◌↔◌, ◌+◌, ◌*◌, true, nat_lt, sym, subst, arith}
use Rattle.meta_setting_tables.specs.WellFormed.{IsBooleanBit}
use Rattle.meta_setting_tables.proofs.Counted.{boolean_bit}
use Rattle.meta_setting_tables.proofs.setting_bytes.is_boolean_bit.Goals as goal

pub returns : goal.returns
returns c =
    let h = c.in-Some.ensures in
    let shape = c.args.shape.now in
    let low = c.requires.bit in
    subst (λ n. (nat_lt (c.in-Some.after * 8 + n) shape.booleans ≡ true)
    ↔ IsBooleanBit shape.own_bytes shape.booleans c.args.byte c.args.bit) (sym c.from.ensures)
    (boolean_bit shape.own_bytes shape.booleans c.args.byte c.args.bit c.in-Some.after (omega (arith, h)) low)
