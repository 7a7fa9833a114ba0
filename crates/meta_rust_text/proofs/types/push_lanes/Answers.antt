use Rattle.std.proofs.Common.{ap, ◌∙◌}
use Rattle.meta_types.specs.LaneTypes.{lane_types_left}
use Rattle.meta_rust_text.specs.TypesText.{type_constant}
use Rattle.meta_rust_text.proofs.TypeTexts.{at_first, one_more, at_last}
use Rattle.meta_rust_text.proofs.types.push_lanes.Goals as goal

pub loop-lane-init : goal.loop-lane-init
loop-lane-init c = at_first type_constant _ _ (ap lane_types_left c.into_iter-lane-iterator.ensures.into_iter_gives
    ∙ c.all_lane_types-lane-items.ensures)

pub loop-lane-preserved : goal.loop-lane-preserved
loop-lane-preserved c =
    one_more type_constant _ _ _ _ _ c.in-Some.lane c.in-Some.ensures.steps c.in_ok-push_type.ensures c.loop-lane.invariant

pub returns : goal.returns
returns c = at_last _ _ _ _ c.in-None.ensures.steps.0 c.loop-lane.invariant
