-- The numbers of types, taken apart into a lane code and a row.
use Rattle.std.proofs.Common.{◌≡◌, ℕ, ◌+◌, ◌-◌, ◌*◌, ◌/◌, ◌%◌, ◌^◌, ◌==◌, ◌<◌, ◌≤◌, ◌↔◌, ◌≢◌, Bool, true, false, not, ◌&&◌, ◌||◌, List, sym}
use Rattle.std.proofs.Common.{subst, refl, arith, Contains}
use Rattle.std.specs.Prelude.{if◌then◌else◌, IsTrue, Option, None, Some, IfSome, IfNone}
use Rattle.std.specs.List.{filter}
use Rattle.std.proofs.lemmas.Bool.{eqb-true, eq-eqb, and_parts}
use Rattle.meta_types.specs.TypeParts.{NumberKind, IntKind, FloatKind, TypeParts, IsType, widths, lane_counts, lane_code, log2, number_of}
use Rattle.meta_types.specs.Function.{same_kind, same_mark}
use Rattle.meta_types.specs.ValueTypes.{type_parts_of}
use Rattle.meta_types.specs.declared.value_type.ValueType.{ValueType}
use Rattle.meta_types.proofs.Typed.{typed}
use Rattle.meta_types.proofs.Among.{among, contains}
use Rattle.meta_types.proofs.AllTypes.{same_kind_true, same_mark_true}
use Rattle.meta_types.proofs.Rows.{code_below}
use Rattle.meta_types.proofs.Numbers.{one_number}
use Rattle.meta_typevar.specs.TypeSetParts.{TypeSetParts, widths_in, lanes_in, IsMember}
use Rattle.meta_typevar.specs.Masks.{Holds, width_mask, lane_mask, ContainsType, ContainsNumber}
use Rattle.meta_typevar.specs.MaskSets.{holds, sets_in}
use Rattle.meta_typevar.specs.Decoding.{HoldsLane, HoldsLanes}
use Rattle.meta_typevar.specs.declared.masks.Masks.{Masks}
use Rattle.meta_typevar.proofs.Finite.{implies, all_in, all_in_at, is_in, is_in_among, from, from_has, at_kinds, at_kind, at_bools, at_bool}
use Rattle.meta_typevar.proofs.Finite.{among_filter, among_kept, both_ways}

-- the test passes at each width of each kind
abbrev at_widths : (NumberKind → ℕ → Bool) → Bool
at_widths p = at_kinds (λ k. all_in (widths k) (p k))

at_width : (p : NumberKind → ℕ → Bool) → at_widths p ≡ true → (k : NumberKind) (w : ℕ) → Contains (widths k) w → p k w ≡ true
at_width p e k w h = all_in_at (widths k) (p k) (at_kind (λ k. all_in (widths k) (p k)) e k) w (among _ _ h)

-- and at each lane count of each mark
abbrev at_lanes : (Bool → ℕ → Bool) → Bool
at_lanes p = at_bools (λ b. all_in (lane_counts b) (p b))

at_lane : (p : Bool → ℕ → Bool) → at_lanes p ≡ true → (b : Bool) (n : ℕ) → Contains (lane_counts b) n → p b n ≡ true
at_lane p e b n h = all_in_at (lane_counts b) (p b) (at_bool (λ b. all_in (lane_counts b) (p b)) e b) n (among _ _ h)

-- the row of a lane count
abbrev lane_row : Bool → ℕ → ℕ
lane_row is_dynamic lanes = log2 lanes + (if is_dynamic then 8 else 0)

-- lanes of one code are the same, and so are lane counts of one row
abbrev codes_tell : NumberKind → ℕ → NumberKind → ℕ → Bool
codes_tell k w l v = not (lane_code k w == lane_code l v) || (same_kind k l && (w == v))

all_codes_tell : at_widths (λ k w. at_widths (λ l v. codes_tell k w l v)) ≡ true
all_codes_tell = refl

abbrev rows_tell : Bool → ℕ → Bool → ℕ → Bool
rows_tell b m c n = not (lane_row b m == lane_row c n) || (same_mark b c && (m == n))

all_rows_tell : at_lanes (λ b m. at_lanes (λ c n. rows_tell b m c n)) ≡ true
all_rows_tell = refl

same_lane : (k : NumberKind) (w : ℕ) (l : NumberKind) (v : ℕ) → Contains (widths k) w → Contains (widths l) v
    → lane_code k w ≡ lane_code l v → (k ≡ l) × (w ≡ v)
same_lane k w l v h i e =
    let t = at_width (λ l v. codes_tell k w l v) (at_width (λ k w. at_widths (λ l v. codes_tell k w l v)) all_codes_tell k w h) l v i in
    let r = and_parts _ _ (implies _ _ t (eq-eqb _ _ e)) in
    (same_kind_true k l r.0, eqb-true w v r.1)

same_count : (b : Bool) (m : ℕ) (c : Bool) (n : ℕ) → Contains (lane_counts b) m → Contains (lane_counts c) n → lane_row b m ≡ lane_row c n
    → (b ≡ c) × (m ≡ n)
same_count b m c n h i e =
    let t = at_lane (λ c n. rows_tell b m c n) (at_lane (λ b m. at_lanes (λ c n. rows_tell b m c n)) all_rows_tell b m h) c n i in
    let r = and_parts _ _ (implies _ _ t (eq-eqb _ _ e)) in
    (same_mark_true b c r.0, eqb-true m n r.1)

-- the mask of a lane's kind is asked, and no other
lane_told : (m : Masks) (k : NumberKind) (w : ℕ) → Contains (widths k) w → (Holds (width_mask m k) w ↔ HoldsLane m (lane_code k w))
lane_told m k w h = (
  λ held. record { kind = k; width = w; is_width = h; coded = refl; held = held },
  λ x.
      let s = same_lane x.kind x.width k w x.is_width h x.coded in
      let at_kind : Holds (width_mask m k) x.width = subst (λ (l : NumberKind). Holds (width_mask m l) x.width) s.0 x.held in
      subst (λ (v : ℕ). Holds (width_mask m k) v) s.1 at_kind,
)

lanes_told : (m : Masks) (b : Bool) (n : ℕ) → Contains (lane_counts b) n → (Holds (lane_mask m b) n ↔ HoldsLanes m (lane_row b n))
lanes_told m b n h = (
  λ held. record { is_dynamic = b; lanes = n; is_count = h; counted = refl; held = held },
  λ x.
      let s = same_count x.is_dynamic x.lanes b n x.is_count h x.counted in
      let at_mark : Holds (lane_mask m b) x.lanes = subst (λ (c : Bool). Holds (lane_mask m c) x.lanes) s.0 x.held in
      subst (λ (v : ℕ). Holds (lane_mask m b) v) s.1 at_mark,
)

-- what a bit stands for, by a test of each code and each row
abbrev bit : ℕ → ℕ
bit n = 1 * 2 ^ n % 65536

abbrev is_lane_bit : NumberKind → ℕ → ℕ → Bool
is_lane_bit k n code = is_in (widths k) (bit n) && (lane_code k (bit n) == code)

abbrev is_count_bit : Bool → ℕ → ℕ → Bool
is_count_bit b n row = is_in (lane_counts b) (bit n) && (lane_row b (bit n) == row)

int_bits : all_in (from 5 4) (λ c. is_lane_bit IntKind (c - 1) c) ≡ true
int_bits = refl

float_bits : all_in (from 4 9) (λ c. is_lane_bit FloatKind (c - 5) c) ≡ true
float_bits = refl

lane_bits : all_in (from 9 0) (λ r. is_count_bit false r r) ≡ true
lane_bits = refl

dynamic_bits : all_in (from 8 9) (λ r. is_count_bit true (r - 8) r) ≡ true
dynamic_bits = refl

lane_bit : (m : Masks) (k : NumberKind) (n code : ℕ) → is_lane_bit k n code ≡ true → (Holds (width_mask m k) (bit n) ↔ HoldsLane m code)
lane_bit m k n code e =
    let r = and_parts _ _ e in
    subst (λ (c : ℕ). Holds (width_mask m k) (bit n) ↔ HoldsLane m c) (eqb-true _ _ r.1)
    (lane_told m k (bit n) (contains _ _ (is_in_among _ _ r.0)))

count_bit : (m : Masks) (b : Bool) (n row : ℕ) → is_count_bit b n row ≡ true → (Holds (lane_mask m b) (bit n) ↔ HoldsLanes m row)
count_bit m b n row e =
    let r = and_parts _ _ e in
    subst (λ (c : ℕ). Holds (lane_mask m b) (bit n) ↔ HoldsLanes m c) (eqb-true _ _ r.1)
    (lanes_told m b (bit n) (contains _ _ (is_in_among _ _ r.0)))

pub int_lane : (m : Masks) (code : ℕ) → 4 ≤ code → code < 9 → (Holds m.ints (bit (code - 1)) ↔ HoldsLane m code)
int_lane m code h l =
    lane_bit m IntKind (code - 1) code (all_in_at (from 5 4) (λ c. is_lane_bit IntKind (c - 1) c) int_bits code (from_has 5 4 code h l))

pub float_lane : (m : Masks) (code : ℕ) → 9 ≤ code → code < 13 → (Holds m.floats (bit (code - 5)) ↔ HoldsLane m code)
float_lane m code h l = lane_bit m FloatKind (code - 5) code
    (all_in_at (from 4 9) (λ c. is_lane_bit FloatKind (c - 5) c) float_bits code (from_has 4 9 code h l))

pub fixed_lanes : (m : Masks) (row : ℕ) → row < 9 → (Holds m.lanes (bit row) ↔ HoldsLanes m row)
fixed_lanes m row l =
    count_bit m false row row (all_in_at (from 9 0) (λ r. is_count_bit false r r) lane_bits row (from_has 9 0 row (omega arith) l))

pub dynamic_lanes : (m : Masks) (row : ℕ) → 9 ≤ row → row < 17 → (Holds m.dynamic_lanes (bit (row - 8)) ↔ HoldsLanes m row)
dynamic_lanes m row h l =
    count_bit m true (row - 8) row (all_in_at (from 8 9) (λ r. is_count_bit true (r - 8) r) dynamic_bits row (from_has 8 9 row h l))

-- a number is its code and its row
made : (n code log : ℕ) (b : Bool) → 112 ≤ n → code ≡ (n - 112) % 16 → log + (if b then 8 else 0) ≡ (n - 112) / 16
    → 112 + (code + (16 * log + (if b then 128 else 0))) ≡ n
made n code log true h c r = omega arith
made n code log false h c r = omega arith

taken : (n code log : ℕ) (b : Bool) → code < 16 → 112 + (code + (16 * log + (if b then 128 else 0))) ≡ n
    → (112 ≤ n) × (code ≡ (n - 112) % 16) × (log + (if b then 8 else 0) ≡ (n - 112) / 16)
taken n code log true l e = (omega arith, omega arith, omega arith)
taken n code log false l e = (omega arith, omega arith, omega arith)

pub number_contained : (m : Masks) (n : ℕ) → 112 ≤ n → HoldsLane m ((n - 112) % 16) → HoldsLanes m ((n - 112) / 16) → ContainsNumber m n
number_contained m n h a b = record {
  type_of = record { kind = a.kind; width = a.width; lanes = b.lanes; is_dynamic = b.is_dynamic };
  contained = record { is_type = record { width = a.is_width; lanes = b.is_count }; width = a.held; lanes = b.held };
  numbered = made n (lane_code a.kind a.width) (log2 b.lanes) b.is_dynamic h a.coded b.counted;
}

pub number_lane : (m : Masks) (n : ℕ) → ContainsNumber m n → HoldsLane m ((n - 112) % 16)
number_lane m n x =
    let t = x.type_of in
    let c = taken n (lane_code t.kind t.width) (log2 t.lanes) t.is_dynamic (code_below t.kind t.width x.contained.is_type.width) x.numbered
    in
    record { kind = t.kind; width = t.width; is_width = x.contained.is_type.width; coded = c.1; held = x.contained.width }

pub number_lanes : (m : Masks) (n : ℕ) → ContainsNumber m n → HoldsLanes m ((n - 112) / 16)
number_lanes m n x =
    let t = x.type_of in
    let c = taken n (lane_code t.kind t.width) (log2 t.lanes) t.is_dynamic (code_below t.kind t.width x.contained.is_type.width) x.numbered
    in
    record { is_dynamic = t.is_dynamic; lanes = t.lanes; is_count = x.contained.is_type.lanes; counted = c.2; held = x.contained.lanes }

-- a member of the sets is what the masks contain
held : (all : List ℕ) (mask n : ℕ) → Contains all n → (Holds mask n ↔ Contains (filter (holds mask) all) n)
held all mask n h = (
  λ e. contains _ _ (among_kept (holds mask) all n (among all n h) (eq-eqb _ _ e)),
  λ c. eqb-true _ _ (among_filter (holds mask) all n (among _ _ c)).1,
)

width_held : (m : Masks) (k : NumberKind) (w : ℕ) → Contains (widths k) w
    → (Holds (width_mask m k) w ↔ Contains (widths_in (sets_in m) k) w)
width_held m IntKind w h = held (widths IntKind) m.ints w h
width_held m FloatKind w h = held (widths FloatKind) m.floats w h

count_held : (m : Masks) (b : Bool) (n : ℕ) → Contains (lane_counts b) n → (Holds (lane_mask m b) n ↔ Contains (lanes_in (sets_in m) b) n)
count_held m false n h = held (lane_counts false) m.lanes n h
count_held m true n h = held (lane_counts true) m.dynamic_lanes n h

pub member_contained : (m : Masks) (t : TypeParts) → IsType t → (ContainsNumber m (number_of t) ↔ IsMember (sets_in m) t)
member_contained m t h = (
  λ x.
      let at_t : ContainsType m t = subst (ContainsType m) (one_number x.type_of t x.contained.is_type h x.numbered) x.contained in
      record {
        is_type = h;
        width = (width_held m t.kind t.width h.width).0 at_t.width;
        lanes = (count_held m t.is_dynamic t.lanes h.lanes).0 at_t.lanes;
      },
  λ x. record {
    type_of = t;
    contained = record {
      is_type = h;
      width = (width_held m t.kind t.width h.width).1 x.width;
      lanes = (count_held m t.is_dynamic t.lanes h.lanes).1 x.lanes;
    };
    numbered = refl;
  },
)

-- what the masks answer to the number of a type of the program
pub contained : (m : Masks) (s : TypeSetParts) (t : ValueType) (n : ℕ) (answer : Bool) → n ≡ number_of (type_parts_of t) → sets_in m ≡ s
    → (IsTrue answer ↔ ContainsNumber m n) → (IsTrue answer ↔ IsMember s (type_parts_of t))
contained m s t n answer e is told =
    let at_t : IsTrue answer ↔ ContainsNumber m (number_of (type_parts_of t)) =
    subst (λ (n : ℕ). IsTrue answer ↔ ContainsNumber m n) e told in
    subst (λ (s : TypeSetParts). IsTrue answer ↔ IsMember s (type_parts_of t)) is
    (both_ways at_t (member_contained m (type_parts_of t) (typed t)))

-- the number of a member is one that the masks contain
pub number_of_member : (m : Masks) (s : TypeSetParts) (r : TypeParts) (n : ℕ) → sets_in m ≡ s → IsMember s r → number_of r ≡ n
    → ContainsNumber m n
number_of_member m s r n is h e =
    subst (ContainsNumber m) e ((member_contained m r h.is_type).1 (subst (λ (s : TypeSetParts). IsMember s r) (sym is) h))

-- the type with a number that the masks contain is a member
pub member_numbered : (m : Masks) (s : TypeSetParts) (n : ℕ) (o : Option ValueType) → sets_in m ≡ s → ContainsNumber m n
    → IfSome o (λ t. number_of (type_parts_of t) ≡ n) → IfSome o (λ r. IsMember s (type_parts_of r) × (number_of (type_parts_of r) ≡ n))
member_numbered m s n None is h e = tt
member_numbered m s n (Some r) is h e = (
  subst (λ (s : TypeSetParts). IsMember s (type_parts_of r)) is
      ((member_contained m (type_parts_of r) (typed r)).0 (subst (ContainsNumber m) (sym e) h)),
  e,
)

pub member_not_numbered : (s : TypeSetParts) (n : ℕ) (o : Option ValueType) → IfNone o ((t : TypeParts) → IsType t → number_of t ≢ n)
    → IfNone o ((r : TypeParts) → IsMember s r → number_of r ≡ n → ⊥)
member_not_numbered s n None none = λ r h e. none r h.is_type e
member_not_numbered s n (Some t) none = tt
