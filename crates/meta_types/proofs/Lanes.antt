-- The lane types and the lane counts of the program are all that there are.
use Rattle.std.proofs.Common.{◌≡◌, ℕ, inl, inr, true, false, ◌==◌, sym, arith, refl, Contains}
use Rattle.std.specs.List.{slice_get}
use Rattle.std.specs.Prelude.{Some}
use Rattle.meta_types.specs.TypeParts.{NumberKind, IntKind, FloatKind, widths, scalar, lane_counts, lane_name, name_of}
use Rattle.std.proofs.lemmas.List.{append-nil}
use Rattle.meta_types.specs.Lane.{lane_parts}
use Rattle.meta_types.specs.LaneTypes.{lane_types}
use Rattle.meta_types.specs.Vector.{lane_count}
use Rattle.meta_types.specs.declared.lane.LaneType.{LaneType}
use Rattle.meta_types.specs.declared.lane.LaneType.TheVariants.{Int as IntLane, Float as FloatLane}
use Rattle.meta_types.specs.declared.lane.Int.TheVariants.{I8, I16, I32, I64, I128}
use Rattle.meta_types.specs.declared.lane.Float.TheVariants.{F16, F32, F64, F128}
use Rattle.meta_types.specs.declared.lane_count.LaneCount.{LaneCount}
use Rattle.meta_types.specs.declared.lane_count.LaneCount.TheVariants.{X2, X4, X8, X16, X32, X64, X128, X256}
use Rattle.meta_types.specs.declared.lane_count.TheConstants.{LANE_COUNTS}
use Rattle.meta_types.proofs.Among.{Among, among}

-- a lane type of this kind and width
lane_of : (kind : NumberKind) (width : ℕ) → Among (widths kind) width → (lane : LaneType) × (lane_parts lane ≡ scalar kind width)
lane_of IntKind width (inl w) = (IntLane I8, λ i. scalar IntKind (sym w i))
lane_of IntKind width (inr (inl w)) = (IntLane I16, λ i. scalar IntKind (sym w i))
lane_of IntKind width (inr (inr (inl w))) = (IntLane I32, λ i. scalar IntKind (sym w i))
lane_of IntKind width (inr (inr (inr (inl w)))) = (IntLane I64, λ i. scalar IntKind (sym w i))
lane_of IntKind width (inr (inr (inr (inr (inl w))))) = (IntLane I128, λ i. scalar IntKind (sym w i))
lane_of IntKind width (inr (inr (inr (inr (inr h))))) = absurd h
lane_of FloatKind width (inl w) = (FloatLane F16, λ i. scalar FloatKind (sym w i))
lane_of FloatKind width (inr (inl w)) = (FloatLane F32, λ i. scalar FloatKind (sym w i))
lane_of FloatKind width (inr (inr (inl w))) = (FloatLane F64, λ i. scalar FloatKind (sym w i))
lane_of FloatKind width (inr (inr (inr (inl w)))) = (FloatLane F128, λ i. scalar FloatKind (sym w i))
lane_of FloatKind width (inr (inr (inr (inr h)))) = absurd h

pub every_lane : (kind : NumberKind) (width : ℕ) → Contains (widths kind) width → (lane : LaneType) × (lane_parts lane ≡ scalar kind width)
every_lane kind width h = lane_of kind width (among (widths kind) width h)

-- the iterators pass over each lane type
pub among_lane_types : (lane : LaneType) → Contains lane_types lane
among_lane_types (IntLane I8) = (0, omega arith, refl)
among_lane_types (IntLane I16) = (1, omega arith, refl)
among_lane_types (IntLane I32) = (2, omega arith, refl)
among_lane_types (IntLane I64) = (3, omega arith, refl)
among_lane_types (IntLane I128) = (4, omega arith, refl)
among_lane_types (FloatLane F16) = (5, omega arith, refl)
among_lane_types (FloatLane F32) = (6, omega arith, refl)
among_lane_types (FloatLane F64) = (7, omega arith, refl)
among_lane_types (FloatLane F128) = (8, omega arith, refl)

-- a lane's name has nothing after it
pub lane_named : (lane : LaneType) → name_of (lane_parts lane) ≡ lane_name (lane_parts lane).kind (lane_parts lane).width
lane_named (IntLane i) = append-nil _
lane_named (FloatLane f) = append-nil _

-- the count of this number, and its place among the eight
pub record CountAt (n : ℕ) : Type 0 where
  pub place : ℕ
  pub count : LaneCount
  pub is_count : slice_get LANE_COUNTS place ≡ Some count
  pub counted : lane_count count ≡ n

count_at : (n : ℕ) → Among (lane_counts true) n → CountAt n
count_at n (inl e) = record { place = 0; count = X2; is_count = refl; counted = sym e }
count_at n (inr (inl e)) = record { place = 1; count = X4; is_count = refl; counted = sym e }
count_at n (inr (inr (inl e))) = record { place = 2; count = X8; is_count = refl; counted = sym e }
count_at n (inr (inr (inr (inl e)))) = record { place = 3; count = X16; is_count = refl; counted = sym e }
count_at n (inr (inr (inr (inr (inl e))))) = record { place = 4; count = X32; is_count = refl; counted = sym e }
count_at n (inr (inr (inr (inr (inr (inl e)))))) = record { place = 5; count = X64; is_count = refl; counted = sym e }
count_at n (inr (inr (inr (inr (inr (inr (inl e))))))) = record { place = 6; count = X128; is_count = refl; counted = sym e }
count_at n (inr (inr (inr (inr (inr (inr (inr (inl e)))))))) = record { place = 7; count = X256; is_count = refl; counted = sym e }
count_at n (inr (inr (inr (inr (inr (inr (inr (inr h)))))))) = absurd h

pub every_count : (n : ℕ) → Contains (lane_counts true) n → CountAt n
every_count n h = count_at n (among (lane_counts true) n h)

-- no vector has one lane
pub not_one : (count : LaneCount) → (lane_count count == 1) ≡ false
not_one X2 = refl
not_one X4 = refl
not_one X8 = refl
not_one X16 = refl
not_one X32 = refl
not_one X64 = refl
not_one X128 = refl
not_one X256 = refl
