use Rattle.std.proofs.Common.{string_bytes, codes, All, Some, slice_get, refl, ◌∙◌, sym, subst}
use Rattle.std.proofs.lemmas.Result.{on_ok_weaker}
use Rattle.meta_lists.proofs.Joined.{where_ok}
use Rattle.meta_types.specs.TypeNumber.{IsTypeNumber}
use Rattle.meta_inst.specs.Tables.{ControlNumberFits}
use Rattle.meta_explain.specs.Listed.{IsLess}
use Rattle.meta_explain.specs.Sets.{numbers_held}
use Rattle.meta_explain.proofs.Listing.{listed_all}
use Rattle.meta_explain.proofs.Typed.{control_typed}
use Rattle.meta_explain.proofs.SetTexts.{held_numbers, parenthesized}
use Rattle.meta_explain.proofs.reasons.push_free.Goals as goal

pub push_set-requires : goal.push_set-requires
push_set-requires c =
    let t = c.args.tables.now in
    let set = c.args.set in
    subst (All IsTypeNumber) (sym c.deref.ensures.value)
    (listed_all IsLess (λ n. ControlNumberFits t set (Some n)) IsTypeNumber c.in_ok-numbers.numbers.items
    (λ n fits. control_typed t set (Some n) n fits refl) c.in_ok-numbers.ensures)

pub returns : goal.returns
returns c =
    let t = c.args.tables.now in
    let old = string_bytes c.args.out.now in
    let held = c.deref.ensures.value
    ∙ held_numbers t c.opcode_count-count.ensures.well_formed c.args.set c.in_ok-numbers.numbers.items c.requires c.in_ok-numbers.ensures in
    on_ok_weaker c.push_str-2.result
    (parenthesized old (string_bytes c.push_str.new.self) (string_bytes c.push_set.new.out) (string_bytes c.push_str-2.new.self)
    c.deref.result.now (numbers_held (slice_get t.type_sets c.args.set)) held c.in_ok-push_str.ensures.bytes c.in_ok-push_set.ensures)
    (where_ok c.push_str-2.result (string_bytes c.push_set.new.out) (codes ")") c.push_str-2.ensures.bytes)
