use Rattle.std.proofs.Common.{◌≡◌, Contains}
use Rattle.meta_types.specs.TypeParts.{lane_code}
use Rattle.meta_types.specs.Lane.{lane_parts}
use Rattle.meta_types.specs.LaneTypes.{lane_types_left}
use Rattle.meta_types.specs.declared.lane.LaneType.{LaneType}
use Rattle.meta_types.proofs.lane.LaneType.from_code.Given as goal

-- a lane of the code is still to come
abbrev pub invariant-loop-lane : goal.invariant-loop-lane
invariant-loop-lane l = (x : LaneType) → lane_code (lane_parts x).kind (lane_parts x).width ≡ l.code
    → Contains (lane_types_left l.lane-iterator) x
