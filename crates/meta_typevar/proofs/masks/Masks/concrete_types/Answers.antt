use Rattle.std.proofs.Common.{◌∙◌, ◌++◌, ap, sym, map, List, [], ℕ, true, false}
use Rattle.std.specs.List.{flat_map}
use Rattle.std.proofs.lemmas.List.{take_all, append-nil}
use Rattle.meta_types.specs.TypeParts.{lane_counts}
use Rattle.meta_types.specs.ValueTypes.{type_parts_of}
use Rattle.meta_typevar.specs.Concrete.{types_at}
use Rattle.meta_typevar.specs.MaskSets.{sets_in}
use Rattle.meta_typevar.proofs.MaskLemmas.{is_type_set}
use Rattle.meta_typevar.proofs.Typing.{types_more, one_of_all}
use Rattle.meta_typevar.proofs.masks.Masks.concrete_types.Goals as goal

pub loop-lanes-init : goal.loop-lanes-init
loop-lanes-init c = ap (map type_parts_of) c.new-types.ensures.items

pub push_fixed-requires : goal.push_fixed-requires
push_fixed-requires c =
    let is = c.as_slice-lanes-items.ensures.value ∙ c.in_ok-fixed.ensures ∙ c.lane_numbers.ensures in
    one_of_all (sets_in c.args.self).lanes (lane_counts false) c.as_slice-lanes-items.result.now
    c.loop-lanes.lanes-index (is_type_set c.args.self).lanes is c.loop-lanes-test.true

pub loop-lanes-preserved : goal.loop-lanes-preserved
loop-lanes-preserved c =
    types_more (sets_in c.args.self) false [] c.as_slice-lanes-items.result.now c.loop-lanes.lanes-index _ _ _ _
    c.loop-lanes-test.true c.in_ok-lane_types.ensures c.as_slice.ensures.value c.loop-lanes.invariant c.in_ok-push_fixed.ensures

pub loop-least-init : goal.loop-least-init
loop-least-init c =
    let is = c.as_slice-lanes-items.ensures.value ∙ c.in_ok-fixed.ensures ∙ c.lane_numbers.ensures in
    c.loop-lanes.invariant ∙ ap (λ (xs : List ℕ). flat_map (types_at (sets_in c.args.self) false) xs)
    (take_all c.loop-lanes.lanes-index c.as_slice-lanes-items.result.now c.loop-lanes-test.false ∙ is) ∙ sym (append-nil _)

pub push_dynamic-requires : goal.push_dynamic-requires
push_dynamic-requires c =
    let is = c.as_slice-least-items.ensures.value ∙ c.in_ok-dynamic.ensures ∙ c.dynamic_lane_numbers.ensures in
    one_of_all (sets_in c.args.self).dynamic_lanes (lane_counts true) c.as_slice-least-items.result.now
    c.loop-least.least-index (is_type_set c.args.self).dynamic_lanes is c.loop-least-test.true

pub loop-least-preserved : goal.loop-least-preserved
loop-least-preserved c = types_more (sets_in c.args.self) true
    (flat_map (types_at (sets_in c.args.self) false) (sets_in c.args.self).lanes) c.as_slice-least-items.result.now
    c.loop-least.least-index _ _ _ _ c.loop-least-test.true c.in_ok-lane_types.ensures
    c.as_slice-in-loop-least.ensures.value c.loop-least.invariant c.in_ok-push_dynamic.ensures

pub returns : goal.returns
returns c =
    let is = c.as_slice-least-items.ensures.value ∙ c.in_ok-dynamic.ensures ∙ c.dynamic_lane_numbers.ensures in
    c.loop-least.invariant ∙ ap (λ (xs : List ℕ). flat_map (types_at (sets_in c.args.self) false)
    (sets_in c.args.self).lanes ++ flat_map (types_at (sets_in c.args.self) true) xs)
    (take_all c.loop-least.least-index c.as_slice-least-items.result.now c.loop-least-test.false ∙ is)
