-- What the functions on masks do to the sets that the masks stand for, by trying all masks.
use Rattle.std.proofs.Common.{◌≡◌, ℕ, ◌*◌, ◌/◌, ◌^◌, ◌%◌, ◌==◌, ◌&&◌, ◌||◌, not, Bool, true, false, List, [], ◌∷◌, length, map, sum, eqb}
use Rattle.std.proofs.Common.{ap, ◌∙◌, sym, refl, bit_and, bit_or}
use Rattle.std.specs.Prelude.{nat_lt, if◌then◌else◌}
use Rattle.std.specs.List.{filter, list_all}
use Rattle.std.proofs.lemmas.List.{length-map}
use Rattle.std.proofs.lemmas.Bool.{eqb-true, eq-eqb, and_parts}
use Rattle.std.specs.Cmp.Lexicographic.{bytes_decides}
use lib.Pointwise.{pointwise}
use Rattle.meta_types.specs.TypeParts.{IntKind, FloatKind, widths, lane_counts}
use Rattle.meta_types.specs.Function.{LaneOf, AsTruthy, HalfWidth, DoubleWidth, SplitLanes, MergeLanes, DynamicToVector, same_mark}
use Rattle.meta_types.proofs.AllTypes.{same_mark_true}
use Rattle.meta_typevar.specs.MaskSets.{holds, sets_in, AreMasks}
use Rattle.meta_typevar.specs.Image.{halves, doubles, is_among, is_one_lane, has_some, truthy_ints, can_halve, can_double}
use Rattle.meta_typevar.specs.MaskImage.{IsMaskImage}
use Rattle.meta_typevar.specs.declared.masks.Masks.{Masks}
use Rattle.meta_typevar.proofs.MaskLemmas.{masks_of}
use Rattle.meta_typevar.proofs.Marks.{at_marks, marked, passes_at_marks, filter_marked}

-- what a test of all masks of some numbers says of one mask
pub at_mask : (all : List ℕ) (p : List ℕ → ℕ → Bool) → at_marks (length all) (λ ms. p (marked ms all) (sum (marked ms all))) ≡ true
    → (mask : ℕ) → mask ≡ sum (filter (holds mask) all) → p (filter (holds mask) all) mask ≡ true
at_mask all p e mask h =
    let n : at_marks (length (map (holds mask) all)) (λ ms. p (marked ms all) (sum (marked ms all))) ≡ true =
    ap (λ n. at_marks n (λ ms. p (marked ms all) (sum (marked ms all)))) (length-map all (holds mask)) ∙ e in
    let t : p (filter (holds mask) all) (sum (filter (holds mask) all)) ≡ true =
    ap (λ (xs : List ℕ). p xs (sum xs)) (filter_marked (holds mask) all)
    ∙ passes_at_marks (λ ms. p (marked ms all) (sum (marked ms all))) (map (holds mask) all) n in
    ap (p (filter (holds mask) all)) h ∙ t

-- the mask n stands for the numbers ys, of those that are allowed
pub record MasksNumbers (all : List ℕ) (n : ℕ) (ys : List ℕ) : Type 0 where
  pub set : filter (holds n) all ≡ ys
  pub mask : n ≡ sum (filter (holds n) all)

abbrev pub masks_numbers : List ℕ → ℕ → List ℕ → Bool
masks_numbers all n ys = pointwise eqb (filter (holds n) all) ys && (n == sum (filter (holds n) all))

pub stands : (all : List ℕ) (n : ℕ) (ys : List ℕ) → masks_numbers all n ys ≡ true → MasksNumbers all n ys
stands all n ys e =
    let b = and_parts _ _ e in
    record { set = (bytes_decides _ _).0 b.0; mask = eqb-true _ _ b.1 }

-- half and twice the widths
half_ints : at_marks 5 (λ ms. masks_numbers (widths IntKind) (bit_and (sum (marked ms (widths IntKind)) / 2 ^ 1) 248)
    (halves 8 (marked ms (widths IntKind)))) ≡ true
half_ints = refl

half_floats : at_marks 4 (λ ms. masks_numbers (widths FloatKind) (bit_and (sum (marked ms (widths FloatKind)) / 2 ^ 1) 240)
    (halves 16 (marked ms (widths FloatKind)))) ≡ true
half_floats = refl

double_ints : at_marks 5 (λ ms. masks_numbers (widths IntKind) (sum (marked ms (widths IntKind)) * 2 ^ 1 % 256)
    (doubles 128 (marked ms (widths IntKind)))) ≡ true
double_ints = refl

double_floats : at_marks 4 (λ ms. masks_numbers (widths FloatKind) (sum (marked ms (widths FloatKind)) * 2 ^ 1 % 256)
    (doubles 128 (marked ms (widths FloatKind)))) ≡ true
double_floats = refl

-- half and twice the lanes
half_lanes : at_marks 9 (λ ms. masks_numbers (lane_counts false) (sum (marked ms (lane_counts false)) / 2 ^ 1)
    (halves 1 (marked ms (lane_counts false)))) ≡ true
half_lanes = refl

double_lanes : at_marks 9 (λ ms. masks_numbers (lane_counts false) (bit_and (sum (marked ms (lane_counts false)) * 2 ^ 1 % 65536) 511)
    (doubles 256 (marked ms (lane_counts false)))) ≡ true
double_lanes = refl

-- the dynamic lanes below 256 as lanes
fixed_form : at_marks 8 (λ ms. masks_numbers (lane_counts false) (bit_and (sum (marked ms (lane_counts true))) 255)
    (filter (λ n. nat_lt n 256) (marked ms (lane_counts true)))) ≡ true
fixed_form = refl

-- the int and the float widths together
both_widths : at_marks 5 (λ ms. at_marks 4 (λ ns. masks_numbers (widths IntKind)
    (bit_or (sum (marked ms (widths IntKind))) (sum (marked ns (widths FloatKind))))
    (filter (λ w. is_among (marked ms (widths IntKind)) w || is_among (marked ns (widths FloatKind)) w) (widths IntKind)))) ≡ true
both_widths = refl

pub halved_ints : (mask : ℕ) → mask ≡ sum (filter (holds mask) (widths IntKind))
    → MasksNumbers (widths IntKind) (bit_and (mask / 2 ^ 1) 248) (halves 8 (filter (holds mask) (widths IntKind)))
halved_ints mask h =
    stands _ _ _ (at_mask (widths IntKind) (λ xs n. masks_numbers (widths IntKind) (bit_and (n / 2 ^ 1) 248) (halves 8 xs)) half_ints mask
    h)

pub halved_floats : (mask : ℕ) → mask ≡ sum (filter (holds mask) (widths FloatKind))
    → MasksNumbers (widths FloatKind) (bit_and (mask / 2 ^ 1) 240) (halves 16 (filter (holds mask) (widths FloatKind)))
halved_floats mask h = stands _ _ _
    (at_mask (widths FloatKind) (λ xs n. masks_numbers (widths FloatKind) (bit_and (n / 2 ^ 1) 240) (halves 16 xs)) half_floats mask h)

pub doubled_ints : (mask : ℕ) → mask ≡ sum (filter (holds mask) (widths IntKind))
    → MasksNumbers (widths IntKind) (mask * 2 ^ 1 % 256) (doubles 128 (filter (holds mask) (widths IntKind)))
doubled_ints mask h =
    stands _ _ _ (at_mask (widths IntKind) (λ xs n. masks_numbers (widths IntKind) (n * 2 ^ 1 % 256) (doubles 128 xs)) double_ints mask h)

pub doubled_floats : (mask : ℕ) → mask ≡ sum (filter (holds mask) (widths FloatKind))
    → MasksNumbers (widths FloatKind) (mask * 2 ^ 1 % 256) (doubles 128 (filter (holds mask) (widths FloatKind)))
doubled_floats mask h = stands _ _ _
    (at_mask (widths FloatKind) (λ xs n. masks_numbers (widths FloatKind) (n * 2 ^ 1 % 256) (doubles 128 xs)) double_floats mask h)

pub halved_lanes : (mask : ℕ) → mask ≡ sum (filter (holds mask) (lane_counts false))
    → MasksNumbers (lane_counts false) (mask / 2 ^ 1) (halves 1 (filter (holds mask) (lane_counts false)))
halved_lanes mask h =
    stands _ _ _ (at_mask (lane_counts false) (λ xs n. masks_numbers (lane_counts false) (n / 2 ^ 1) (halves 1 xs)) half_lanes mask h)

pub doubled_lanes : (mask : ℕ) → mask ≡ sum (filter (holds mask) (lane_counts false))
    → MasksNumbers (lane_counts false) (bit_and (mask * 2 ^ 1 % 65536) 511) (doubles 256 (filter (holds mask) (lane_counts false)))
doubled_lanes mask h = stands _ _ _ (at_mask (lane_counts false)
    (λ xs n. masks_numbers (lane_counts false) (bit_and (n * 2 ^ 1 % 65536) 511) (doubles 256 xs)) double_lanes mask h)

pub fixed_lanes : (mask : ℕ) → mask ≡ sum (filter (holds mask) (lane_counts true))
    → MasksNumbers (lane_counts false) (bit_and mask 255) (filter (λ n. nat_lt n 256) (filter (holds mask) (lane_counts true)))
fixed_lanes mask h = stands _ _ _
    (at_mask (lane_counts true) (λ xs n. masks_numbers (lane_counts false) (bit_and n 255) (filter (λ n. nat_lt n 256) xs)) fixed_form mask
    h)

pub all_widths : (ints floats : ℕ) → ints ≡ sum (filter (holds ints) (widths IntKind))
    → floats ≡ sum (filter (holds floats) (widths FloatKind))
    → MasksNumbers (widths IntKind) (bit_or ints floats)
    (filter (λ w. is_among (filter (holds ints) (widths IntKind)) w || is_among (filter (holds floats) (widths FloatKind)) w)
    (widths IntKind))
all_widths ints floats h l =
    let at_ints : at_marks 4 (λ ns. masks_numbers (widths IntKind) (bit_or ints (sum (marked ns (widths FloatKind))))
    (filter (λ w. is_among (filter (holds ints) (widths IntKind)) w || is_among (marked ns (widths FloatKind)) w) (widths IntKind)))
    ≡ true =
    at_mask (widths IntKind) (λ xs n. at_marks 4 (λ ns. masks_numbers (widths IntKind) (bit_or n (sum (marked ns (widths FloatKind))))
    (filter (λ w. is_among xs w || is_among (marked ns (widths FloatKind)) w) (widths IntKind)))) both_widths ints h in
    stands _ _ _ (at_mask (widths FloatKind) (λ ys n. masks_numbers (widths IntKind) (bit_or ints n)
    (filter (λ w. is_among (filter (holds ints) (widths IntKind)) w || is_among ys w) (widths IntKind))) at_ints floats l)

pub apart : (a b : ℕ) → (a ≡ b → ⊥) → (a == b) ≡ false
apart a b h = elim (a == b) as (λ t. (a == b) ≡ t → t ≡ false) [
  | true ↦ λ e. absurd (h (eqb-true a b e))
  | false ↦ λ e. refl
] refl

-- tests of masks, and tests of the numbers that they stand for
abbrev same_tests : List ℕ → (ℕ → Bool) → (List ℕ → Bool) → Bool
same_tests all p q = at_marks (length all) (λ ms. same_mark (p (sum (marked ms all))) (q (marked ms all)))

same_test : (all : List ℕ) (p : ℕ → Bool) (q : List ℕ → Bool) → same_tests all p q ≡ true → (mask : ℕ)
    → mask ≡ sum (filter (holds mask) all) → p mask ≡ q (filter (holds mask) all)
same_test all p q e mask h = same_mark_true _ _ (at_mask all (λ xs n. same_mark (p n) (q xs)) e mask h)

pub scalars_told : (mask : ℕ) → mask ≡ sum (filter (holds mask) (lane_counts false))
    → (mask == 1) ≡ is_one_lane (filter (holds mask) (lane_counts false))
scalars_told = same_test (lane_counts false) (λ n. n == 1) is_one_lane refl

pub can_halve_told : (m : Masks) → AreMasks m → ((bit_and m.ints 8 == 0) && (bit_and m.floats 16 == 0)) ≡ can_halve (sets_in m)
can_halve_told m h =
    let a = same_test (widths IntKind) (λ n. bit_and n 8 == 0) (list_all (nat_lt 8)) refl m.ints h.ints in
    let b = same_test (widths FloatKind) (λ n. bit_and n 16 == 0) (list_all (nat_lt 16)) refl m.floats h.floats in
    λ i. a i && b i

pub can_double_told : (m : Masks) → AreMasks m → ((bit_and m.ints 128 == 0) && (bit_and m.floats 128 == 0)) ≡ can_double (sets_in m)
can_double_told m h =
    let a = same_test (widths IntKind) (λ n. bit_and n 128 == 0) (list_all (λ w. nat_lt w 128)) refl m.ints h.ints in
    let b = same_test (widths FloatKind) (λ n. bit_and n 128 == 0) (list_all (λ w. nat_lt w 128)) refl m.floats h.floats in
    λ i. a i && b i

pub lanes_double_told : (m : Masks) → AreMasks m → (not (m.lanes == 0) && (bit_and m.lanes 256 == 0))
    ≡ (has_some (sets_in m).lanes && list_all (λ n. nat_lt n 256) (sets_in m).lanes)
lanes_double_told m h = same_test (lane_counts false) (λ n. not (n == 0) && (bit_and n 256 == 0))
    (λ xs. has_some xs && list_all (λ n. nat_lt n 256) xs) refl m.lanes h.lanes

pub lanes_halve_told : (m : Masks) → AreMasks m → (not (m.lanes == 0) && (bit_and m.lanes 1 == 0))
    ≡ (has_some (sets_in m).lanes && list_all (nat_lt 1) (sets_in m).lanes)
lanes_halve_told m h = same_test (lane_counts false) (λ n. not (n == 0) && (bit_and n 1 == 0))
    (λ xs. has_some xs && list_all (nat_lt 1) xs) refl m.lanes h.lanes

-- a conjunction whose first test passes is the second
after_first : (a b r : Bool) → a ≡ true → (a && b) ≡ r → b ≡ r
after_first a b r e h = ap (λ x. x && b) (sym e) ∙ h

pub halve_then : (m : Masks) → AreMasks m → bit_and m.ints 8 ≡ 0 → (bit_and m.floats 16 == 0) ≡ can_halve (sets_in m)
halve_then m h e = after_first _ _ _ (eq-eqb _ _ e) (can_halve_told m h)

pub double_then : (m : Masks) → AreMasks m → bit_and m.ints 128 ≡ 0 → (bit_and m.floats 128 == 0) ≡ can_double (sets_in m)
double_then m h e = after_first _ _ _ (eq-eqb _ _ e) (can_double_told m h)

pub lanes_double_then : (m : Masks) → AreMasks m → (m.lanes ≡ 0 → ⊥)
    → (bit_and m.lanes 256 == 0) ≡ (has_some (sets_in m).lanes && list_all (λ n. nat_lt n 256) (sets_in m).lanes)
lanes_double_then m h e = after_first (not (m.lanes == 0)) _ _ (ap not (apart _ _ e)) (lanes_double_told m h)

pub lanes_halve_then : (m : Masks) → AreMasks m → (m.lanes ≡ 0 → ⊥)
    → (bit_and m.lanes 1 == 0) ≡ (has_some (sets_in m).lanes && list_all (nat_lt 1) (sets_in m).lanes)
lanes_halve_then m h e = after_first (not (m.lanes == 0)) _ _ (ap not (apart _ _ e)) (lanes_halve_told m h)

-- the image of masks under each function that changes them
pub lane_image : (m : Masks) → AreMasks m → IsMaskImage LaneOf m (masks_of 1 m.dynamic_lanes m.ints m.floats)
lane_image m h = record { sets = refl; masks = record { lanes = refl; dynamic_lanes = h.dynamic_lanes; ints = h.ints; floats = h.floats } }

pub half_image : (m : Masks) → AreMasks m
    → IsMaskImage HalfWidth m (masks_of m.lanes m.dynamic_lanes (bit_and (m.ints / 2 ^ 1) 248) (bit_and (m.floats / 2 ^ 1) 240))
half_image m h =
    let a = halved_ints m.ints h.ints in
    let b = halved_floats m.floats h.floats in
    record {
      sets = λ i. record {
        lanes = filter (holds m.lanes) (lane_counts false);
        dynamic_lanes = filter (holds m.dynamic_lanes) (lane_counts true);
        ints = a.set i;
        floats = b.set i;
      };
      masks = record { lanes = h.lanes; dynamic_lanes = h.dynamic_lanes; ints = a.mask; floats = b.mask };
    }

pub double_image : (m : Masks) → AreMasks m
    → IsMaskImage DoubleWidth m (masks_of m.lanes m.dynamic_lanes (m.ints * 2 ^ 1 % 256) (m.floats * 2 ^ 1 % 256))
double_image m h =
    let a = doubled_ints m.ints h.ints in
    let b = doubled_floats m.floats h.floats in
    record {
      sets = λ i. record {
        lanes = filter (holds m.lanes) (lane_counts false);
        dynamic_lanes = filter (holds m.dynamic_lanes) (lane_counts true);
        ints = a.set i;
        floats = b.set i;
      };
      masks = record { lanes = h.lanes; dynamic_lanes = h.dynamic_lanes; ints = a.mask; floats = b.mask };
    }

-- with other lanes
split : (m n : Masks) (lanes : ℕ) → IsMaskImage HalfWidth m n → MasksNumbers (lane_counts false) lanes (doubles 256 (sets_in m).lanes)
    → IsMaskImage SplitLanes m (masks_of lanes n.dynamic_lanes n.ints n.floats)
split m n lanes h s = record {
  sets = λ i. record { lanes = s.set i; dynamic_lanes = (h.sets i).dynamic_lanes; ints = (h.sets i).ints; floats = (h.sets i).floats };
  masks = record { lanes = s.mask; dynamic_lanes = h.masks.dynamic_lanes; ints = h.masks.ints; floats = h.masks.floats };
}

pub split_image : (m n : Masks) → AreMasks m → IsMaskImage HalfWidth m n
    → IsMaskImage SplitLanes m (masks_of (bit_and (m.lanes * 2 ^ 1 % 65536) 511) n.dynamic_lanes n.ints n.floats)
split_image m n h s = split m n _ s (doubled_lanes m.lanes h.lanes)

pub merge_image : (m n : Masks) → AreMasks m → IsMaskImage DoubleWidth m n
    → IsMaskImage MergeLanes m (masks_of (m.lanes / 2 ^ 1) n.dynamic_lanes n.ints n.floats)
merge_image m n h d =
    let s = halved_lanes m.lanes h.lanes in
    record {
      sets = λ i. record { lanes = s.set i; dynamic_lanes = (d.sets i).dynamic_lanes; ints = (d.sets i).ints; floats = (d.sets i).floats };
      masks = record { lanes = s.mask; dynamic_lanes = d.masks.dynamic_lanes; ints = d.masks.ints; floats = d.masks.floats };
    }

pub fixed_image : (m : Masks) → AreMasks m → IsMaskImage DynamicToVector m (masks_of (bit_and m.dynamic_lanes 255) 0 m.ints m.floats)
fixed_image m h =
    let s = fixed_lanes m.dynamic_lanes h.dynamic_lanes in
    record {
      sets = λ i. record { lanes = s.set i; dynamic_lanes = []; ints = (sets_in m).ints; floats = (sets_in m).floats };
      masks = record { lanes = s.mask; dynamic_lanes = refl; ints = h.ints; floats = h.floats };
    }

pub truthy_image : (m : Masks) (ints : ℕ) → AreMasks m → MasksNumbers (widths IntKind) ints (truthy_ints (sets_in m))
    → IsMaskImage AsTruthy m (masks_of m.lanes m.dynamic_lanes ints 0)
truthy_image m ints h s = record {
  sets = λ i. record { lanes = (sets_in m).lanes; dynamic_lanes = (sets_in m).dynamic_lanes; ints = s.set i; floats = [] };
  masks = record { lanes = h.lanes; dynamic_lanes = h.dynamic_lanes; ints = s.mask; floats = refl };
}

pub vector_ints : (m : Masks) → AreMasks m → (m.lanes == 1) ≡ false
    → MasksNumbers (widths IntKind) (bit_or m.ints m.floats) (truthy_ints (sets_in m))
vector_ints m h e =
    let t : is_one_lane (sets_in m).lanes ≡ false = sym (scalars_told m.lanes h.lanes) ∙ e in
    let s = all_widths m.ints m.floats h.ints h.floats in
    record {
      set = s.set ∙ ap (λ b. if b then 8 ∷ [] else filter (λ w. is_among (sets_in m).ints w || is_among (sets_in m).floats w)
          (widths IntKind)) (sym t);
      mask = s.mask;
    }

pub ruleset images = (lane_image, half_image, double_image, split_image, merge_image, fixed_image)
