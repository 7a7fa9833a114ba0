use Rattle.std.proofs.Common.{◌≡◌, ◌≢◌, ℕ, ◌<◌}
use Rattle.std.specs.List.{slice_get}
use Rattle.std.specs.Prelude.{Some}
use Rattle.meta_types.specs.TypeParts.{log2}
use Rattle.meta_types.specs.Vector.{lane_count}
use Rattle.meta_types.specs.declared.lane_count.LaneCount.{LaneCount}
use Rattle.meta_types.specs.declared.lane_count.TheConstants.{LANE_COUNTS}
use Rattle.meta_types.proofs.lane_count.LaneCount.from_log2.Given as goal

-- none of the counts so far has the exponent
abbrev pub invariant-loop-count : goal.invariant-loop-count
invariant-loop-count l = (k : ℕ) (x : LaneCount) → k < l.count-index → slice_get LANE_COUNTS k ≡ Some x → log2 (lane_count x) ≢ l.exponent
