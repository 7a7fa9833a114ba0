-- Types that compare equal are one, and a type compares equal to itself.
use Rattle.std.proofs.Common.{rules, ◌≡◌, true, ap}
use Rattle.std.proofs.lemmas.Bool.{and_parts}
use Rattle.meta_types.specs.declared.lane.Int.{Int}
use Rattle.meta_types.specs.declared.lane.Int.TheVariants.{I8, I16, I32, I64, I128}
use Rattle.meta_types.specs.declared.lane.Float.{Float}
use Rattle.meta_types.specs.declared.lane.Float.TheVariants.{F16, F32, F64, F128}
use Rattle.meta_types.specs.declared.lane.LaneType.{LaneType}
use Rattle.meta_types.specs.declared.lane.LaneType.TheVariants.{Int as IntLane, Float as FloatLane}
use Rattle.meta_types.specs.declared.lane_count.LaneCount.{LaneCount}
use Rattle.meta_types.specs.declared.lane_count.LaneCount.TheVariants.{X2, X4, X8, X16, X32, X64, X128, X256}
use Rattle.meta_types.specs.declared.value_type.ValueType.{ValueType}
use Rattle.meta_types.specs.declared.value_type.ValueType.TheVariants.{Lane, Vector, DynamicVector}
use Rattle.meta_types.specs.contracts.lane.IntPartialEq.TheImpl.{eq-value as int_eq}
use Rattle.meta_types.specs.contracts.lane.FloatPartialEq.TheImpl.{eq-value as float_eq}
use Rattle.meta_types.specs.contracts.lane.LaneTypePartialEq.TheImpl.{eq-value as lane_eq}
use Rattle.meta_types.specs.contracts.lane_count.LaneCountPartialEq.TheImpl.{eq-value as count_eq}
use Rattle.meta_types.specs.contracts.value_type.ValueTypePartialEq.TheImpl.{eq-value}

same_int : (a b : Int) → int_eq.it a b ≡ true → a ≡ b
same_int I8 b e = search rules
same_int I16 b e = search rules
same_int I32 b e = search rules
same_int I64 b e = search rules
same_int I128 b e = search rules

same_float : (a b : Float) → float_eq.it a b ≡ true → a ≡ b
same_float F16 b e = search rules
same_float F32 b e = search rules
same_float F64 b e = search rules
same_float F128 b e = search rules

same_lane : (a b : LaneType) → lane_eq.it a b ≡ true → a ≡ b
same_lane (IntLane a) (IntLane b) e = ap IntLane (same_int a b e)
same_lane (IntLane a) (FloatLane b) e = cc
same_lane (FloatLane a) (IntLane b) e = cc
same_lane (FloatLane a) (FloatLane b) e = ap FloatLane (same_float a b e)

same_count : (a b : LaneCount) → count_eq.it a b ≡ true → a ≡ b
same_count X2 b e = search rules
same_count X4 b e = search rules
same_count X8 b e = search rules
same_count X16 b e = search rules
same_count X32 b e = search rules
same_count X64 b e = search rules
same_count X128 b e = search rules
same_count X256 b e = search rules

pub same_type : (a b : ValueType) → eq-value.it a b ≡ true → a ≡ b
same_type (Lane a) (Lane b) e = ap Lane (same_lane a b e)
same_type (Lane a) (Vector b) e = cc
same_type (Lane a) (DynamicVector b) e = cc
same_type (Vector a) (Lane b) e = cc
same_type (Vector a) (Vector b) e =
    λ i. Vector (record { base = same_lane a.base b.base (and_parts _ _ e).0 i; lanes = same_count a.lanes b.lanes (and_parts _ _ e).1 i })
same_type (Vector a) (DynamicVector b) e = cc
same_type (DynamicVector a) (Lane b) e = cc
same_type (DynamicVector a) (Vector b) e = cc
same_type (DynamicVector a) (DynamicVector b) e =
    λ i. DynamicVector (record {
      base = same_lane a.base b.base (and_parts _ _ e).0 i;
      unscaled_lanes = same_count a.unscaled_lanes b.unscaled_lanes (and_parts _ _ e).1 i;
    })

pub equal_type : (a b : ValueType) → a ≡ b → eq-value.it a b ≡ true
equal_type a b e = search rules
