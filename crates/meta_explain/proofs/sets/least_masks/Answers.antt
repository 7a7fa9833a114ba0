use Rattle.std.proofs.Common.{◌+◌, get_or, take, refl, sym, ◌∙◌, ap, subst}
use Rattle.std.proofs.lemmas.List.{take_all}
use Rattle.meta_types.specs.TypeNumber.{type_with}
use Rattle.meta_typevar.specs.Masks.{AreMasksOf}
use Rattle.meta_explain.specs.Sets.{least_set}
use Rattle.meta_explain.specs.MaskTexts.{with_bits}
use Rattle.meta_explain.proofs.LeastSets.{least_more}
use Rattle.meta_explain.proofs.sets.least_masks.Goals as goal

pub loop-number-init : goal.loop-number-init
loop-number-init c = record { lanes = refl; dynamic_lanes = refl; ints = refl; floats = refl }

pub loop-number-preserved : goal.loop-number-preserved
loop-number-preserved c =
    let ns = c.args.numbers.now in
    let i = c.loop-number.number-index in
    let m = c.loop-number.masks in
    subst (AreMasksOf (least_set (take (i + 1) ns))) (sym (c.with_type-masks.ensures ∙ ap (with_bits m) c.type_of.ensures))
    (least_more ns i c.loop-number-test.true m c.loop-number.invariant (c.requires i 0 c.loop-number-test.true).is_type)

pub returns : goal.returns
returns c =
    let ns = c.args.numbers.now in
    subst (λ xs. AreMasksOf (least_set xs) c.loop-number.masks) (take_all c.loop-number.number-index ns c.loop-number-test.false)
    c.loop-number.invariant
