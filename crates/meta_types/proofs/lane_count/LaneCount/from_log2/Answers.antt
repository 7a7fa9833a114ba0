use Rattle.std.proofs.Common.{◌≡◌, ◌∙◌, ap, arith, below_more}
use Rattle.std.specs.List.{slice_get}
use Rattle.std.specs.Prelude.{Some}
use Rattle.std.proofs.lemmas.Option.{get_or_from_slice_get, slice_get_within}
use Rattle.meta_types.specs.TypeParts.{log2}
use Rattle.meta_types.specs.Vector.{lane_count}
use Rattle.meta_types.specs.declared.lane_count.TheConstants.{LANE_COUNTS}
use Rattle.meta_types.proofs.Lanes.{every_count}
use Rattle.meta_types.proofs.lane_count.LaneCount.from_log2.Goals as goal

pub loop-count-preserved : goal.loop-count-preserved
loop-count-preserved c =
    λ k x l e n. below_more (λ k. slice_get LANE_COUNTS k ≡ Some x → ⊥) c.loop-count.count-index
    (λ k l e. c.loop-count.invariant k x l e n)
    (λ e. c.if-log2-exponent.false (c.log2.ensures ∙ ap (λ y. log2 (lane_count y)) (get_or_from_slice_get LANE_COUNTS _ x _ e) ∙ n))
    k l e

pub returns-clause-none : goal.returns-clause-none
returns-clause-none c = λ n h e.
    let a = every_count n h in
    let l = slice_get_within LANE_COUNTS a.place a.count a.is_count in
    c.loop-count.invariant a.place a.count (omega arith) a.is_count (ap log2 a.counted ∙ e)
