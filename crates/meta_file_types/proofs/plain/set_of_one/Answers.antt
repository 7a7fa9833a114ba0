use Rattle.meta_types.specs.ValueTypes.{type_parts_of}
use Rattle.meta_types.proofs.Typed.{typed}
use Rattle.meta_file_types.specs.Plain.{set_of_one}
use Rattle.meta_file_types.proofs.OnePlain.{one_is_set, are_masks}
use Rattle.meta_file_types.proofs.OneSet.{one_set}
use Rattle.meta_file_types.proofs.plain.set_of_one.Goals as goal

-- there is a set with these masks
pub unreachable-requires : goal.unreachable-requires
unreachable-requires c =
    let t = type_parts_of c.args.value_type in
    c.in_default.ensures.none (set_of_one t) (one_is_set t (typed c.args.value_type))
    (are_masks t _ _ _ c.lane_of.ensures.kind c.lane_of.ensures.width c.lane_masks-lanes.ensures.fixed
    c.lane_masks-lanes.ensures.dynamic c.width_masks-ints.ensures.ints c.width_masks-ints.ensures.floats)

pub returns : goal.returns
returns c =
    let t = type_parts_of c.args.value_type in
    one_set c.in-Some.set (set_of_one t) _ c.in-Some.ensures.sets (one_is_set t (typed c.args.value_type)) c.in-Some.ensures.found
    (are_masks t _ _ _ c.lane_of.ensures.kind c.lane_of.ensures.width c.lane_masks-lanes.ensures.fixed
    c.lane_masks-lanes.ensures.dynamic c.width_masks-ints.ensures.ints c.width_masks-ints.ensures.floats)
