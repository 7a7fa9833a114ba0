-- The vectors of the program as contracts see them.
--     lane_count n           a count of lanes as a number
--     vector_parts v, dynamic_parts v      a vector, and one of which only the least count of lanes is known
use Rattle.std.specs.Prelude.{ℕ, true, false}
use Rattle.meta_types.specs.TypeParts.{TypeParts}
use Rattle.meta_types.specs.Lane.{lane_parts}
use Rattle.meta_types.specs.declared.lane_count.LaneCount.{LaneCount}
use Rattle.meta_types.specs.declared.lane_count.LaneCount.TheVariants.{X2, X4, X8, X16, X32, X64, X128, X256}
use Rattle.meta_types.specs.declared.vector.VectorType.{VectorType}
use Rattle.meta_types.specs.declared.vector.DynamicVectorType.{DynamicVectorType}

-- how many lanes are meant
abbrev pub lane_count : LaneCount → ℕ
lane_count X2 = 2
lane_count X4 = 4
lane_count X8 = 8
lane_count X16 = 16
lane_count X32 = 32
lane_count X64 = 64
lane_count X128 = 128
lane_count X256 = 256

-- the parts of the type with this count of lanes, from the parts of one lane
abbrev pub lanes_of : TypeParts → ℕ → TypeParts
lanes_of lane lanes = record { kind = lane.kind; width = lane.width; lanes = lanes; is_dynamic = false }

-- the same, with the count as the least one
abbrev pub least_lanes_of : TypeParts → ℕ → TypeParts
least_lanes_of lane lanes = record { kind = lane.kind; width = lane.width; lanes = lanes; is_dynamic = true }

-- the parts of a fixed vector
abbrev pub vector_parts : VectorType → TypeParts
vector_parts v = lanes_of (lane_parts v.base) (lane_count v.lanes)

-- the parts of a dynamic vector
abbrev pub dynamic_parts : DynamicVectorType → TypeParts
dynamic_parts v = least_lanes_of (lane_parts v.base) (lane_count v.unscaled_lanes)
