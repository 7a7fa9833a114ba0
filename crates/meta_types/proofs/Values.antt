-- Each type is one value of the program's.
use Rattle.std.proofs.Common.{◌≡◌, ℕ, zero, suc, ◌==◌, ◌∙◌, sym, ap, refl, cond, Bool, true, false, Contains, le_of_suc-le-suc}
use Rattle.std.specs.Prelude.{if◌then◌else◌}
use Rattle.meta_types.specs.TypeParts.{NumberKind, IntKind, FloatKind, TypeParts, IsType, widths, lane_counts, scalar}
use Rattle.meta_types.specs.Lane.{lane_parts}
use Rattle.meta_types.specs.Vector.{lane_count, lanes_of, least_lanes_of}
use Rattle.meta_types.specs.ValueTypes.{type_parts_of}
use Rattle.meta_types.specs.declared.lane.Int.{Int}
use Rattle.meta_types.specs.declared.lane.Int.TheVariants.{I8, I16, I32, I64, I128}
use Rattle.meta_types.specs.declared.lane.Float.{Float}
use Rattle.meta_types.specs.declared.lane.Float.TheVariants.{F16, F32, F64, F128}
use Rattle.meta_types.specs.declared.lane.LaneType.{LaneType}
use Rattle.meta_types.specs.declared.lane.LaneType.TheVariants.{Int as IntLane, Float as FloatLane}
use Rattle.meta_types.specs.declared.lane_count.LaneCount.{LaneCount}
use Rattle.meta_types.specs.declared.lane_count.LaneCount.TheVariants.{X2, X4, X8, X16, X32, X64, X128, X256}
use Rattle.meta_types.specs.declared.vector.VectorType.{VectorType}
use Rattle.meta_types.specs.declared.vector.DynamicVectorType.{DynamicVectorType}
use Rattle.meta_types.specs.declared.value_type.ValueType.{ValueType}
use Rattle.meta_types.specs.declared.value_type.ValueType.TheVariants.{Lane, Vector, DynamicVector}
use Rattle.meta_types.proofs.Lanes.{every_lane, every_count, not_one}

-- a value of the type of this kind, width, count and mark
value_of : (kind : NumberKind) (width lanes : ℕ) (mark : Bool) → Contains (widths kind) width
    → Contains (lane_counts mark) lanes
    → (t : ValueType) × (type_parts_of t ≡ record { kind = kind; width = width; lanes = lanes; is_dynamic = mark })
value_of kind width lanes false w (zero, l, e) =
    let a = every_lane kind width w in
    (Lane a.0, a.1 ∙ (λ i. lanes_of (scalar kind width) (e i)))
value_of kind width lanes false w (suc k, l, e) =
    let a = every_lane kind width w in
    let n = every_count lanes (k, le_of_suc-le-suc l, e) in
    let v : VectorType = record { base = a.0; lanes = n.count } in
    (Vector v, λ i. lanes_of (a.1 i) (n.counted i))
value_of kind width lanes true w h =
    let a = every_lane kind width w in
    let n = every_count lanes h in
    let v : DynamicVectorType = record { base = a.0; unscaled_lanes = n.count } in
    (DynamicVector v, λ i. least_lanes_of (a.1 i) (n.counted i))

pub every_value : (s : TypeParts) → IsType s → (t : ValueType) × (type_parts_of t ≡ s)
every_value s h = value_of s.kind s.width s.lanes s.is_dynamic h.width h.lanes

-- the way back from the parts
abbrev int_of : ℕ → Int
int_of w = if w == 8 then I8 else (if w == 16 then I16 else (if w == 32 then I32 else (if w == 64 then I64 else I128)))

abbrev float_of : ℕ → Float
float_of w = if w == 16 then F16 else (if w == 32 then F32 else (if w == 64 then F64 else F128))

abbrev lane_back : NumberKind → ℕ → LaneType
lane_back IntKind w = IntLane (int_of w)
lane_back FloatKind w = FloatLane (float_of w)

abbrev count_back : ℕ → LaneCount
count_back n = if n == 2 then X2 else
    (if n == 4 then X4 else (if n == 8 then X8 else
    (if n == 16 then X16 else (if n == 32 then X32 else (if n == 64 then X64 else (if n == 128 then X128 else X256))))))

abbrev value_back : TypeParts → ValueType
value_back s =
    if s.lanes == 1 then Lane (lane_back s.kind s.width)
    else (if s.is_dynamic then DynamicVector (record { base = lane_back s.kind s.width; unscaled_lanes = count_back s.lanes })
    else Vector (record { base = lane_back s.kind s.width; lanes = count_back s.lanes }))

lane_again : (lane : LaneType) → lane_back (lane_parts lane).kind (lane_parts lane).width ≡ lane
lane_again (IntLane I8) = refl
lane_again (IntLane I16) = refl
lane_again (IntLane I32) = refl
lane_again (IntLane I64) = refl
lane_again (IntLane I128) = refl
lane_again (FloatLane F16) = refl
lane_again (FloatLane F32) = refl
lane_again (FloatLane F64) = refl
lane_again (FloatLane F128) = refl

count_again : (count : LaneCount) → count_back (lane_count count) ≡ count
count_again X2 = refl
count_again X4 = refl
count_again X8 = refl
count_again X16 = refl
count_again X32 = refl
count_again X64 = refl
count_again X128 = refl
count_again X256 = refl

alone : (lane : LaneType) → value_back (lane_parts lane) ≡ Lane lane
alone (IntLane i) = ap Lane (lane_again (IntLane i))
alone (FloatLane f) = ap Lane (lane_again (FloatLane f))

value_again : (t : ValueType) → value_back (type_parts_of t) ≡ t
value_again (Lane lane) = alone lane
value_again (Vector v) =
    ap (λ b. cond b (Lane (lane_back (lane_parts v.base).kind (lane_parts v.base).width))
    (Vector (record {
      base = lane_back (lane_parts v.base).kind (lane_parts v.base).width;
      lanes = count_back (lane_count v.lanes);
    }))) (not_one v.lanes)
    ∙ (λ i. Vector (record { base = lane_again v.base i; lanes = count_again v.lanes i }))
value_again (DynamicVector v) =
    ap (λ b. cond b (Lane (lane_back (lane_parts v.base).kind (lane_parts v.base).width))
    (DynamicVector (record {
      base = lane_back (lane_parts v.base).kind (lane_parts v.base).width;
      unscaled_lanes = count_back (lane_count v.unscaled_lanes);
    }))) (not_one v.unscaled_lanes)
    ∙ (λ i. DynamicVector (record { base = lane_again v.base i; unscaled_lanes = count_again v.unscaled_lanes i }))

-- two values of one type are one
pub one_value : (t u : ValueType) → type_parts_of t ≡ type_parts_of u → t ≡ u
one_value t u e = sym (value_again t) ∙ ap value_back e ∙ value_again u
