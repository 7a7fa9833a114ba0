-- The number of a type, taken apart: 112, the code of its lane, and 16 for each row that its lanes and its mark give.
use Rattle.std.proofs.Common.{◌≡◌, ◌≢◌, ℕ, ◌+◌, ◌*◌, ◌/◌, ◌%◌, ◌<◌, ◌≤◌, zero, suc, Bool, true, false, nat_lt, Contains, refl, sym, ap}
use Rattle.std.proofs.Common.{arith, le_of_suc-le-suc, if◌then◌else◌, ◌-◌}
use Rattle.std.proofs.lemmas.Bool.{ltb-true}
use Rattle.meta_types.specs.TypeParts.{NumberKind, IntKind, FloatKind, TypeParts, IsType, widths, lane_counts, lane_code, log2, number_of}
use Rattle.meta_types.specs.Lane.{lane_parts}
use Rattle.meta_types.specs.declared.lane.LaneType.{LaneType}
use Rattle.meta_types.specs.declared.lane.LaneType.TheVariants.{Int as IntLane, Float as FloatLane}
use Rattle.meta_types.proofs.AllTypes.{at_each_contained}

pub code_below : (kind : NumberKind) (width : ℕ) → Contains (widths kind) width → lane_code kind width < 16
code_below IntKind width h = ltb-true _ 16 (at_each_contained (λ w. nat_lt (lane_code IntKind w) 16) (widths IntKind) width refl h)
code_below FloatKind width h = ltb-true _ 16 (at_each_contained (λ w. nat_lt (lane_code FloatKind w) 16) (widths FloatKind) width refl h)

row_above : (n : ℕ) → Contains (lane_counts true) n → 0 < log2 n
row_above n h = ltb-true 0 _ (at_each_contained (λ m. nat_lt 0 (log2 m)) (lane_counts true) n refl h)

row_within : (n : ℕ) → Contains (lane_counts false) n → log2 n < 9
row_within n h = ltb-true _ 9 (at_each_contained (λ m. nat_lt (log2 m) 9) (lane_counts false) n refl h)

-- no number below the first is that of a type
pub none_below : (n : ℕ) (t : TypeParts) → (112 ≤ n → ⊥) → number_of t ≡ n → ⊥
none_below n t low e = low (let parts : 112 + (lane_code t.kind t.width + (16 * log2 t.lanes + (if t.is_dynamic then 128 else 0))) ≡ n = e
    in omega arith)

-- a type of that number has the code of its lane
pub no_code : (n above : ℕ) (t : TypeParts) → IsType t → n ≡ 112 + above
    → ((kind : NumberKind) (width : ℕ) → Contains (widths kind) width → lane_code kind width ≢ above % 16) → number_of t ≡ n → ⊥
no_code n above t h is none e =
    none t.kind t.width h.width (by_mark t.is_dynamic (lane_code t.kind t.width) (log2 t.lanes) (code_below t.kind t.width h.width) e)
  where
    by_mark : (mark : Bool) (code row : ℕ) → code < 16 → 112 + (code + (16 * row + (if mark then 128 else 0))) ≡ n → code ≡ above % 16
    by_mark true code row l e = omega arith
    by_mark false code row l e = omega arith

-- a fixed vector of that number has its row as the exponent of its lanes
pub no_row : (n above : ℕ) (t : TypeParts) → IsType t → n ≡ 112 + above → 0 < above / 16 → above / 16 ≤ 8
    → ((m : ℕ) → Contains (lane_counts true) m → log2 m ≢ above / 16) → number_of t ≡ n → ⊥
no_row n above t h is some few none e =
    by_mark t.is_dynamic t.lanes (lane_code t.kind t.width) (code_below t.kind t.width h.width) h.lanes e
  where
    by_mark : (mark : Bool) (lanes code : ℕ) → code < 16 → Contains (lane_counts mark) lanes
        → 112 + (code + (16 * log2 lanes + (if mark then 128 else 0))) ≡ n → ⊥
    by_mark true lanes code l c e = let a = row_above lanes c in omega arith
    by_mark false lanes code l (zero, k, one) e = let o : log2 lanes ≡ 0 = ap log2 (sym one) in omega arith
    by_mark false lanes code l (suc k, b, same) e = none lanes (k, le_of_suc-le-suc b, same) (omega arith)

-- a dynamic vector has eight rows more
pub no_least_row : (n above : ℕ) (t : TypeParts) → IsType t → n ≡ 112 + above → 8 < above / 16
    → ((m : ℕ) → Contains (lane_counts true) m → log2 m ≢ above / 16 - 8) → number_of t ≡ n → ⊥
no_least_row n above t h is many none e =
    by_mark t.is_dynamic t.lanes (lane_code t.kind t.width) (code_below t.kind t.width h.width) h.lanes e
  where
    by_mark : (mark : Bool) (lanes code : ℕ) → code < 16 → Contains (lane_counts mark) lanes
        → 112 + (code + (16 * log2 lanes + (if mark then 128 else 0))) ≡ n → ⊥
    by_mark true lanes code l c e = none lanes c (omega arith)
    by_mark false lanes code l c e = let a = row_within lanes c in omega arith

-- the number of a lane type
pub lane_number : (lane : LaneType) → number_of (lane_parts lane)
    ≡ 112 + (lane_code (lane_parts lane).kind (lane_parts lane).width + (16 * 0 + 0))
lane_number (IntLane i) = refl
lane_number (FloatLane f) = refl

-- the number of the code and the row that were found
pub number_found : (n above code row mark : ℕ) → n ≡ 112 + above → code ≡ above % 16 → 16 * row + mark ≡ 16 * (above / 16)
    → 112 + (code + (16 * row + mark)) ≡ n
number_found n above code row mark is c r = omega arith
