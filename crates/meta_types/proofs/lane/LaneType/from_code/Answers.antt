use Rattle.std.proofs.Common.{◌∙◌, ap, sym, subst, Contains, List}
use Rattle.meta_types.specs.TypeParts.{TypeParts, lane_code}
use Rattle.meta_types.specs.Lane.{lane_parts}
use Rattle.meta_types.specs.LaneTypes.{lane_types_left}
use Rattle.meta_types.specs.declared.lane.LaneType.{LaneType}
use Rattle.meta_types.proofs.Lanes.{every_lane, among_lane_types}
use Rattle.meta_types.proofs.Left.{still_left, none_left}
use Rattle.meta_types.proofs.lane.LaneType.from_code.Goals as goal

pub loop-lane-init : goal.loop-lane-init
loop-lane-init c = λ x e. subst (λ (xs : List LaneType). Contains xs x)
    (sym (ap lane_types_left c.into_iter-lane-iterator.ensures.into_iter_gives ∙ c.new-lane-items.ensures)) (among_lane_types x)

pub loop-lane-preserved : goal.loop-lane-preserved
loop-lane-preserved c = λ x e.
    still_left _ _ c.in-Some.lane x c.in-Some.ensures.steps (c.loop-lane.invariant x e)
    (λ same. c.if-code.false (c.code.ensures ∙ ap (λ y. lane_code (lane_parts y).kind (lane_parts y).width) same ∙ e))

pub returns-clause-none : goal.returns-clause-none
returns-clause-none c = λ kind width h e.
    let a = every_lane kind width h in
    none_left _ a.0 c.in-None.ensures.steps.0 (c.loop-lane.invariant a.0 (ap (λ (s : TypeParts). lane_code s.kind s.width) a.1 ∙ e))
