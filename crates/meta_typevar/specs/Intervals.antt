-- The parts of a type set builder, and the sets that they make.
--     IsWithin all i         the interval i may be built over the numbers all
--     CanBuild parts         each part may be built
--     sets_between parts     the sets that are built
use Rattle.std.specs.Prelude.{ℕ, ◌≤◌, ◌&&◌, nat_le, Bool, true, false, not, List, [], ◌∷◌, Contains}
use Rattle.std.specs.List.{filter}
use Rattle.meta_types.specs.TypeParts.{IntKind, FloatKind, widths, lane_counts}
use Rattle.meta_typevar.specs.TypeSetParts.{TypeSetParts}
use Rattle.meta_typevar.specs.declared.interval.Interval.{Interval}
use Rattle.meta_typevar.specs.declared.interval.Interval.TheVariants.{None as Nothing, All as Everything, Range as Between}
use Rattle.meta_typevar.specs.declared.interval.Part.{Part}
use Rattle.meta_typevar.specs.declared.interval.Part.TheVariants.{Ints, Floats, SimdLanes, DynamicSimdLanes}

-- the interval of each part, and whether one lane is among all lane counts
pub record Intervals : Type 0 where
  pub ints : Interval
  pub floats : Interval
  pub simd_lanes : Interval
  pub dynamic_simd_lanes : Interval
  pub includes_scalars : Bool

-- no part is set, and scalars are included
abbrev pub nothing_set : Intervals
nothing_set = record { ints = Nothing; floats = Nothing; simd_lanes = Nothing; dynamic_simd_lanes = Nothing; includes_scalars = true }

-- the interval of one part
abbrev pub interval_of : Intervals → Part → Interval
interval_of parts Ints = parts.ints
interval_of parts Floats = parts.floats
interval_of parts SimdLanes = parts.simd_lanes
interval_of parts DynamicSimdLanes = parts.dynamic_simd_lanes

-- whether the interval has the number: Nothing has none, Everything each, and a range those between its ends and the ends
abbrev pub has : Interval → ℕ → Bool
has Nothing n = false
has Everything n = true
has (Between r) n = nat_le r.start n && nat_le n r.end

-- where the interval is a range, both ends are among the numbers, and the low end is at most the high one
abbrev pub IsWithin : List ℕ → Interval → Type 0
IsWithin all Nothing = Unit {0}
IsWithin all Everything = Unit {0}
IsWithin all (Between r) = Contains all r.start × Contains all r.end × (r.start ≤ r.end)

-- all lane counts of scalars and fixed vectors: 1 to 256, and 2 to 256 where scalars are not included
abbrev pub simd_counts : Bool → List ℕ
simd_counts includes_scalars = lane_counts (not includes_scalars)

-- the ends of each range are numbers that its part may have, so powers of two: ints from 8 to 128, floats from 16 to 128,
-- lanes from 1 (2 where scalars are not included) to 256, and dynamic lanes from 2 to 256
pub record CanBuild (parts : Intervals) : Type 0 where
  pub ints : IsWithin (widths IntKind) parts.ints
  pub floats : IsWithin (widths FloatKind) parts.floats
  pub simd_lanes : IsWithin (simd_counts parts.includes_scalars) parts.simd_lanes
  pub dynamic_simd_lanes : IsWithin (lane_counts true) parts.dynamic_simd_lanes

-- the lane counts of scalars and fixed vectors: one lane where the part is not set, and else what its interval has of all
abbrev pub lanes_between : Bool → Interval → List ℕ
lanes_between includes_scalars Nothing = 1 ∷ []
lanes_between includes_scalars Everything = simd_counts includes_scalars
lanes_between includes_scalars (Between r) = filter (has (Between r)) (simd_counts includes_scalars)

-- what the interval of each part has of the numbers that the part may have
abbrev pub sets_between : Intervals → TypeSetParts
sets_between parts = record {
  lanes = lanes_between parts.includes_scalars parts.simd_lanes;
  dynamic_lanes = filter (has parts.dynamic_simd_lanes) (lane_counts true);
  ints = filter (has parts.ints) (widths IntKind);
  floats = filter (has parts.floats) (widths FloatKind);
}
