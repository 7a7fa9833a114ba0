use Rattle.std.proofs.Common.{◌∙◌, ◌++◌, ap, sym, map, List, [], ℕ}
use Rattle.std.proofs.lemmas.List.{take_all, append-nil}
use Rattle.meta_types.specs.TypeParts.{IntKind, FloatKind, scalar, widths}
use Rattle.meta_types.specs.Lane.{lane_parts}
use Rattle.meta_typevar.specs.MaskSets.{sets_in}
use Rattle.meta_typevar.proofs.MaskLemmas.{is_type_set}
use Rattle.meta_typevar.proofs.Typing.{pushed_more, one_of_all}
use Rattle.meta_typevar.proofs.masks.Masks.lane_types.Goals as goal

pub loop-int-init : goal.loop-int-init
loop-int-init c = ap (map lane_parts) c.new-lane_types.ensures.items

pub int_from_bits-requires : goal.int_from_bits-requires
int_from_bits-requires c =
    let is = c.as_slice-int-items.ensures.value ∙ c.in_ok-ints.ensures ∙ c.int_numbers.ensures in
    one_of_all (sets_in c.args.self).ints (widths IntKind) c.as_slice-int-items.result.now c.loop-int.int-index
    (is_type_set c.args.self).ints is c.loop-int-test.true

pub loop-int-preserved : goal.loop-int-preserved
loop-int-preserved c = pushed_more lane_parts (scalar IntKind) c.as_slice-int-items.result.now c.loop-int.int-index 0 _ _
    _ [] c.loop-int-test.true c.in_ok-push.ensures.items c.int_from_bits.ensures c.loop-int.invariant

pub loop-float-init : goal.loop-float-init
loop-float-init c =
    let is = c.as_slice-int-items.ensures.value ∙ c.in_ok-ints.ensures ∙ c.int_numbers.ensures in
    c.loop-int.invariant ∙ ap (λ (xs : List ℕ). map (scalar IntKind) xs)
    (take_all c.loop-int.int-index c.as_slice-int-items.result.now c.loop-int-test.false ∙ is) ∙ sym (append-nil _)

pub float_from_bits-requires : goal.float_from_bits-requires
float_from_bits-requires c =
    let is = c.as_slice-float-items.ensures.value ∙ c.in_ok-floats.ensures ∙ c.float_numbers.ensures in
    one_of_all (sets_in c.args.self).floats (widths FloatKind) c.as_slice-float-items.result.now c.loop-float.float-index
    (is_type_set c.args.self).floats is c.loop-float-test.true

pub loop-float-preserved : goal.loop-float-preserved
loop-float-preserved c = pushed_more lane_parts (scalar FloatKind) c.as_slice-float-items.result.now c.loop-float.float-index 0 _ _ _
    (map (scalar IntKind) (sets_in c.args.self).ints) c.loop-float-test.true c.in_ok-push-2.ensures.items c.float_from_bits.ensures
    c.loop-float.invariant

pub returns : goal.returns
returns c =
    let is = c.as_slice-float-items.ensures.value ∙ c.in_ok-floats.ensures ∙ c.float_numbers.ensures in
    c.loop-float.invariant ∙ ap (λ (xs : List ℕ). map (scalar IntKind) (sets_in c.args.self).ints ++ map (scalar FloatKind) xs)
    (take_all c.loop-float.float-index c.as_slice-float-items.result.now c.loop-float-test.false ∙ is)
