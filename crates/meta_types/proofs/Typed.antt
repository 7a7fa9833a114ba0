-- The parts of each value type are those of a type.
use Rattle.std.proofs.Common.{Bool, false, true, Contains, lit<, refl}
use Rattle.meta_types.specs.TypeParts.{IsType, widths, lane_counts}
use Rattle.meta_types.specs.Lane.{lane_parts}
use Rattle.meta_types.specs.Vector.{lane_count}
use Rattle.meta_types.specs.ValueTypes.{type_parts_of}
use Rattle.meta_types.specs.declared.lane.LaneType.{LaneType}
use Rattle.meta_types.specs.declared.lane.LaneType.TheVariants.{Int as IntLane, Float as FloatLane}
use Rattle.meta_types.specs.declared.lane.Int.TheVariants.{I8, I16, I32, I64, I128}
use Rattle.meta_types.specs.declared.lane.Float.TheVariants.{F16, F32, F64, F128}
use Rattle.meta_types.specs.declared.lane_count.LaneCount.{LaneCount}
use Rattle.meta_types.specs.declared.lane_count.LaneCount.TheVariants.{X2, X4, X8, X16, X32, X64, X128, X256}
use Rattle.meta_types.specs.declared.value_type.ValueType.{ValueType}
use Rattle.meta_types.specs.declared.value_type.ValueType.TheVariants.{Lane, Vector, DynamicVector}

-- a lane has one of the widths of its kind
lane_width : (l : LaneType) → Contains (widths (lane_parts l).kind) (lane_parts l).width
lane_width (IntLane I8) = (0, lit< tt, refl)
lane_width (IntLane I16) = (1, lit< tt, refl)
lane_width (IntLane I32) = (2, lit< tt, refl)
lane_width (IntLane I64) = (3, lit< tt, refl)
lane_width (IntLane I128) = (4, lit< tt, refl)
lane_width (FloatLane F16) = (0, lit< tt, refl)
lane_width (FloatLane F32) = (1, lit< tt, refl)
lane_width (FloatLane F64) = (2, lit< tt, refl)
lane_width (FloatLane F128) = (3, lit< tt, refl)

-- a vector, fixed or dynamic, may have each count of lanes
may_count : (is_dynamic : Bool) (n : LaneCount) → Contains (lane_counts is_dynamic) (lane_count n)
may_count false X2 = (1, lit< tt, refl)
may_count false X4 = (2, lit< tt, refl)
may_count false X8 = (3, lit< tt, refl)
may_count false X16 = (4, lit< tt, refl)
may_count false X32 = (5, lit< tt, refl)
may_count false X64 = (6, lit< tt, refl)
may_count false X128 = (7, lit< tt, refl)
may_count false X256 = (8, lit< tt, refl)
may_count true X2 = (0, lit< tt, refl)
may_count true X4 = (1, lit< tt, refl)
may_count true X8 = (2, lit< tt, refl)
may_count true X16 = (3, lit< tt, refl)
may_count true X32 = (4, lit< tt, refl)
may_count true X64 = (5, lit< tt, refl)
may_count true X128 = (6, lit< tt, refl)
may_count true X256 = (7, lit< tt, refl)

pub typed : (t : ValueType) → IsType (type_parts_of t)
typed (Lane l) = lane_typed l
  where
    lane_typed : (l : LaneType) → IsType (lane_parts l)
    lane_typed (IntLane i) = record { width = lane_width (IntLane i); lanes = (0, lit< tt, refl) }
    lane_typed (FloatLane f) = record { width = lane_width (FloatLane f); lanes = (0, lit< tt, refl) }
typed (Vector v) = record { width = lane_width v.base; lanes = may_count false v.lanes }
typed (DynamicVector v) = record { width = lane_width v.base; lanes = may_count true v.unscaled_lanes }
