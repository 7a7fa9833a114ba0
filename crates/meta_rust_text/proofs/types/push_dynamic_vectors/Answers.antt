use Rattle.std.proofs.Common.{ap, ◌∙◌, List, ℕ, ◌++◌, string_bytes}
use Rattle.meta_types.specs.AllTypes.{scalars}
use Rattle.meta_types.specs.LaneTypes.{lane_types_left}
use Rattle.meta_types.specs.Vector.{least_lanes_of}
use Rattle.meta_rust_text.specs.TypesText.{sized_text}
use Rattle.meta_rust_text.proofs.TypeTexts.{at_first, one_more, at_last, sized}
use Rattle.meta_rust_text.proofs.types.push_dynamic_vectors.Goals as goal

pub loop-lane-init : goal.loop-lane-init
loop-lane-init c = at_first (sized_text least_lanes_of c.args.bits) _ _
    (ap lane_types_left c.into_iter-lane-iterator.ensures.into_iter_gives ∙ c.all_lane_types-lane-items.ensures)

pub loop-lane-preserved : goal.loop-lane-preserved
loop-lane-preserved c = one_more (sized_text least_lanes_of c.args.bits) _ _ _ _ _ c.in-Some.lane
    c.in-Some.ensures.steps c.in_ok-push_dynamic_vector.ensures c.loop-lane.invariant

pub returns : goal.returns
returns c = at_last _ _ _ _ c.in-None.ensures.steps.0 c.loop-lane.invariant
    ∙ ap (λ (xs : List ℕ). string_bytes c.args.out.now ++ xs) (sized least_lanes_of c.args.bits scalars)
