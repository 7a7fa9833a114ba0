-- The least set that has some types, by its masks, and the numbers of the types of a set.
use Rattle.std.proofs.Common.{◌≡◌, ◌↔◌, inl, inr, ⊎_elim, ◌<◌, ◌+◌, ◌==◌, ◌&&◌, ◌||◌, eqb, ltb, Bool, true, false, cond, ℕ, zero, suc, List, []}
use Rattle.std.proofs.Common.{◌∷◌, length, map, sum, slice_get, get_or, take, Contains, Some, bit_or, refl, sym, ◌∙◌, ap, ap₂, subst, arith}
use Rattle.std.specs.List.{filter, list_any, list_all}
use Rattle.std.proofs.lemmas.Bool.{false≢true, and_parts, and_from, eqb-true, eq-eqb, ltb-true}
use Rattle.std.proofs.lemmas.List.{length-map}
use Rattle.std.proofs.lemmas.List.Folds.{list_any_more}
use Rattle.std.proofs.lemmas.Option.{same_Some}
use Rattle.meta_lists.proofs.Contained.{contains_first, contains_after, contains_cases, contains_none}
use Rattle.meta_types.specs.TypeParts.{NumberKind, IntKind, FloatKind, TypeParts, IsType, widths, lane_counts, number_of}
use Rattle.meta_types.specs.TypeNumber.{type_with, IsTypeNumber}
use Rattle.meta_types.specs.Function.{same_kind, same_mark}
use Rattle.meta_types.proofs.Among.{Among, among, contains}
use Rattle.meta_types.proofs.AllTypes.{at_all, at_all_types}
use Rattle.meta_types.proofs.TypeNumbers.{number_is_one, type_back}
use Rattle.meta_typevar.specs.Image.{is_among}
use Rattle.meta_typevar.specs.TypeSetParts.{TypeSetParts, IsMember, widths_in, lanes_in}
use Rattle.meta_typevar.specs.Masks.{Holds, width_mask, lane_mask, ContainsNumber, AreMasksOf}
use Rattle.meta_typevar.specs.MaskSets.{holds, sets_in, AreMasks}
use Rattle.meta_typevar.specs.declared.masks.Masks.{Masks}
use Rattle.meta_typevar.proofs.Finite.{all_in, all_in_at, among_filter, among_kept}
use Rattle.meta_typevar.proofs.Marks.{at_marks, marked, passes_at_marks, filter_marked, keeps, ints_keep, floats_keep, lanes_keep}
use Rattle.meta_typevar.proofs.Marks.{dynamic_lanes_keep, holds_sum}
use Rattle.meta_explain.specs.Listed.{AreListed, IsLess}
use Rattle.meta_explain.specs.Sets.{has_lanes, has_width, least_set, is_in, type_numbers, numbers_in, is_one_set}
use Rattle.meta_explain.specs.MaskTexts.{with_width, with_lanes, with_bits}
use Rattle.meta_explain.proofs.Listing.{contained_at}

-- ---- a bit more in a mask

-- n is marked beside those that are
abbrev marked_too : ℕ → List ℕ → List Bool → List Bool
marked_too n [] ms = []
marked_too n (x ∷ xs) [] = []
marked_too n (x ∷ xs) (m ∷ ms) = (m || (n == x)) ∷ marked_too n xs ms

abbrev adds_at : List ℕ → List Bool → Bool
adds_at all ms = all_in all (λ n. bit_or (sum (marked ms all)) n == sum (marked (marked_too n all ms) all))

-- the bit of a number comes to each mask of some numbers as its mark does
abbrev adds : List ℕ → Bool
adds all = at_marks (length all) (adds_at all)

ints_add : adds (widths IntKind) ≡ true
ints_add = refl

floats_add : adds (widths FloatKind) ≡ true
floats_add = refl

lanes_add : adds (lane_counts false) ≡ true
lanes_add = refl

dynamic_lanes_add : adds (lane_counts true) ≡ true
dynamic_lanes_add = refl

marks_too : (p : ℕ → Bool) (n : ℕ) (xs : List ℕ) → marked_too n xs (map p xs) ≡ map (λ x. p x || (n == x)) xs
marks_too p n [] = refl
marks_too p n (x ∷ xs) = ap (λ (ms : List Bool). (p x || (n == x)) ∷ ms) (marks_too p n xs)

added : (all : List ℕ) → adds all ≡ true → (p : ℕ → Bool) (n : ℕ) → Among all n
    → bit_or (sum (filter p all)) n ≡ sum (filter (λ x. p x || (n == x)) all)
added all e p n here =
    let at : at_marks (length (map p all)) (adds_at all) ≡ true = ap (λ k. at_marks k (adds_at all)) (length-map all p) ∙ e in
    let test = all_in_at all (λ m. bit_or (sum (marked (map p all) all)) m == sum (marked (marked_too m all (map p all)) all))
    (passes_at_marks (adds_at all) (map p all) at) n here in
    ap (λ (xs : List ℕ). bit_or (sum xs) n) (filter_marked p all)
    ∙ eqb-true _ _ test
    ∙ ap (λ (ms : List Bool). sum (marked ms all)) (marks_too p n all)
    ∙ ap sum (sym (filter_marked (λ x. p x || (n == x)) all))

-- tests that answer alike keep the same
filter_same : (p q : ℕ → Bool) (xs : List ℕ) → ((x : ℕ) → p x ≡ q x) → filter p xs ≡ filter q xs
filter_same p q [] h = refl
filter_same p q (x ∷ xs) h = ap₂ (λ (b : Bool) (ys : List ℕ). cond b (x ∷ ys) ys) (h x) (filter_same p q xs h)

or_none : (b : Bool) → b ≡ (b || false)
or_none true = refl
or_none false = refl

pub or_true : (b : Bool) → (b || true) ≡ true
or_true true = refl
or_true false = refl

-- a dimension of a mask or of none, after one more type
lanes_more : (d b : Bool) (all : List ℕ) → adds all ≡ true → (p : ℕ → Bool) (mask n : ℕ) → mask ≡ sum (filter p all)
    → (b ≡ d → Among all n) → with_lanes d b mask n ≡ sum (filter (λ x. p x || (same_mark b d && (n == x))) all)
lanes_more true true all e p mask n h here = ap (λ m. bit_or m n) h ∙ added all e p n (here refl)
lanes_more true false all e p mask n h here = h ∙ ap sum (filter_same p (λ x. p x || false) all (λ x. or_none (p x)))
lanes_more false true all e p mask n h here = h ∙ ap sum (filter_same p (λ x. p x || false) all (λ x. or_none (p x)))
lanes_more false false all e p mask n h here = ap (λ m. bit_or m n) h ∙ added all e p n (here refl)

widths_more : (d b : NumberKind) (all : List ℕ) → adds all ≡ true → (p : ℕ → Bool) (mask n : ℕ) → mask ≡ sum (filter p all)
    → (b ≡ d → Among all n) → with_width d b mask n ≡ sum (filter (λ x. p x || (same_kind b d && (n == x))) all)
widths_more IntKind IntKind all e p mask n h here = ap (λ m. bit_or m n) h ∙ added all e p n (here refl)
widths_more IntKind FloatKind all e p mask n h here = h ∙ ap sum (filter_same p (λ x. p x || false) all (λ x. or_none (p x)))
widths_more FloatKind IntKind all e p mask n h here = h ∙ ap sum (filter_same p (λ x. p x || false) all (λ x. or_none (p x)))
widths_more FloatKind FloatKind all e p mask n h here = ap (λ m. bit_or m n) h ∙ added all e p n (here refl)

-- ---- the least set, type by type

module _ (ns : List ℕ) (i : ℕ) (l : i < length ns) (m : Masks) (h : AreMasksOf (least_set (take i ns)) m) (typed : IsType (type_with
    (get_or ns i 0))) where
  lanes_of : (d : Bool) → (type_with (get_or ns i 0)).is_dynamic ≡ d → Among (lane_counts d) (type_with (get_or ns i 0)).lanes
  lanes_of d e = among _ _ (subst (λ b. Contains (lane_counts b) (type_with (get_or ns i 0)).lanes) e typed.lanes)

  width_of : (d : NumberKind) → (type_with (get_or ns i 0)).kind ≡ d → Among (widths d) (type_with (get_or ns i 0)).width
  width_of d e = among _ _ (subst (λ k. Contains (widths k) (type_with (get_or ns i 0)).width) e typed.width)

  lanes_step : (d : Bool) (all : List ℕ) → adds all ≡ true → (mask : ℕ) → mask ≡ sum (filter (has_lanes (take i ns) d) all)
      → ((type_with (get_or ns i 0)).is_dynamic ≡ d → Among all (type_with (get_or ns i 0)).lanes)
      → with_lanes d (type_with (get_or ns i 0)).is_dynamic mask (type_with (get_or ns i 0)).lanes
      ≡ sum (filter (has_lanes (take (i + 1) ns) d) all)
  lanes_step d all e mask is here =
      let t = type_with (get_or ns i 0) in
      lanes_more d t.is_dynamic all e (has_lanes (take i ns) d) mask t.lanes is here
      ∙ ap sum (filter_same (λ x. has_lanes (take i ns) d x || (same_mark t.is_dynamic d && (t.lanes == x)))
      (has_lanes (take (i + 1) ns) d) all
      (λ x. sym (list_any_more (λ n. same_mark (type_with n).is_dynamic d && ((type_with n).lanes == x)) ns i 0 l)))

  widths_step : (d : NumberKind) (all : List ℕ) → adds all ≡ true → (mask : ℕ) → mask ≡ sum (filter (has_width (take i ns) d) all)
      → ((type_with (get_or ns i 0)).kind ≡ d → Among all (type_with (get_or ns i 0)).width)
      → with_width d (type_with (get_or ns i 0)).kind mask (type_with (get_or ns i 0)).width
      ≡ sum (filter (has_width (take (i + 1) ns) d) all)
  widths_step d all e mask is here =
      let t = type_with (get_or ns i 0) in
      widths_more d t.kind all e (has_width (take i ns) d) mask t.width is here
      ∙ ap sum (filter_same (λ x. has_width (take i ns) d x || (same_kind t.kind d && (t.width == x)))
      (has_width (take (i + 1) ns) d) all
      (λ x. sym (list_any_more (λ n. same_kind (type_with n).kind d && ((type_with n).width == x)) ns i 0 l)))

  pub least_more : AreMasksOf (least_set (take (i + 1) ns)) (with_bits m (type_with (get_or ns i 0)))
  least_more = record {
    lanes = lanes_step false (lane_counts false) lanes_add m.lanes h.lanes (lanes_of false);
    dynamic_lanes = lanes_step true (lane_counts true) dynamic_lanes_add m.dynamic_lanes h.dynamic_lanes (lanes_of true);
    ints = widths_step IntKind (widths IntKind) ints_add m.ints h.ints (width_of IntKind);
    floats = widths_step FloatKind (widths FloatKind) floats_add m.floats h.floats (width_of FloatKind);
  }

-- the masks of the least set hold just it
held : (all : List ℕ) → keeps all ≡ true → (p : ℕ → Bool) (mask : ℕ) → mask ≡ sum (filter p all) → filter (holds mask) all ≡ filter p all
held all e p mask h = ap (λ (m : ℕ). filter (holds m) all) h ∙ holds_sum all e p

pub least_sets : (ns : List ℕ) (m : Masks) → AreMasksOf (least_set ns) m → sets_in m ≡ least_set ns
least_sets ns m h =
    let l = held (lane_counts false) lanes_keep (has_lanes ns false) m.lanes h.lanes in
    let d = held (lane_counts true) dynamic_lanes_keep (has_lanes ns true) m.dynamic_lanes h.dynamic_lanes in
    let n = held (widths IntKind) ints_keep (has_width ns IntKind) m.ints h.ints in
    let f = held (widths FloatKind) floats_keep (has_width ns FloatKind) m.floats h.floats in
    λ i. record { lanes = l i; dynamic_lanes = d i; ints = n i; floats = f i }

pub least_masks_are : (ns : List ℕ) (m : Masks) → AreMasksOf (least_set ns) m → AreMasks m
least_masks_are ns m h = subst (λ s. AreMasksOf s m) (sym (least_sets ns m h)) h

-- ---- the numbers of the types of a set

pub among_to : (xs : List ℕ) (n : ℕ) → is_among xs n ≡ true → Contains xs n
among_to [] n e = absurd (false≢true e)
among_to (x ∷ xs) n e = elim (x == n) as (λ b. (x == n) ≡ b → (b || is_among xs n) ≡ true → Contains (x ∷ xs) n) [
  | true ↦ λ t _. subst (Contains (x ∷ xs)) (eqb-true x n t) (contains_first x xs)
  | false ↦ λ _ h. contains_after x n xs (among_to xs n h)
] refl e

pub among_from : (xs : List ℕ) (n : ℕ) → Contains xs n → is_among xs n ≡ true
among_from [] n c = absurd (contains_none n c)
among_from (x ∷ xs) n c = ⊎_elim
    (λ e. ap (λ b. b || is_among xs n) (eq-eqb x n e))
    (λ later. ap (λ b. (x == n) || b) (among_from xs n later) ∙ or_true (x == n))
    (contains_cases x n xs c)

in_to : (s : TypeSetParts) (t : TypeParts) → IsType t → is_in s t ≡ true → IsMember s t
in_to s t typed e =
    let (w, l) = and_parts (is_among (widths_in s t.kind) t.width) (is_among (lanes_in s t.is_dynamic) t.lanes) e in
    record { is_type = typed; width = among_to _ _ w; lanes = among_to _ _ l }

in_from : (s : TypeSetParts) (t : TypeParts) → IsMember s t → is_in s t ≡ true
in_from s t m = and_from _ _ (among_from _ _ m.width) (among_from _ _ m.lanes)

abbrev is_type_number : ℕ → Bool
is_type_number n = is_among (widths (type_with n).kind) (type_with n).width
    && (is_among (lane_counts (type_with n).is_dynamic) (type_with n).lanes && (number_of (type_with n) == n))

all_typed : all_in type_numbers is_type_number ≡ true
all_typed = refl

all_numbered : at_all (λ t. is_among type_numbers (number_of t)) ≡ true
all_numbered = refl

pub number_typed : (n : ℕ) → Contains type_numbers n → IsTypeNumber n
number_typed n c =
    let (w, rest) = and_parts _ _ (all_in_at type_numbers is_type_number all_typed n (among type_numbers n c)) in
    let (l, e) = and_parts _ _ rest in
    record { is_type = record { width = among_to _ _ w; lanes = among_to _ _ l }; numbered = eqb-true _ _ e }

pub typed_number : (n : ℕ) → IsTypeNumber n → Contains type_numbers n
typed_number n is = subst (Contains type_numbers) is.numbered (among_to type_numbers (number_of (type_with n))
    (at_all_types (λ t. is_among type_numbers (number_of t)) all_numbered (type_with n) is.is_type))

pub numbers_to : (s : TypeSetParts) (n : ℕ) → Contains (numbers_in s) n → IsTypeNumber n × IsMember s (type_with n)
numbers_to s n c =
    let (a, e) = among_filter (λ k. is_in s (type_with k)) type_numbers n (among (numbers_in s) n c) in
    let typed = number_typed n (contains type_numbers n a) in
    (typed, in_to s (type_with n) typed.is_type e)

pub numbers_from : (s : TypeSetParts) (n : ℕ) → IsTypeNumber n → IsMember s (type_with n) → Contains (numbers_in s) n
numbers_from s n is m = contains (numbers_in s) n (among_kept (λ k. is_in s (type_with k)) type_numbers n
    (among type_numbers n (typed_number n is)) (in_from s (type_with n) m))

-- what the masks contain are the types of their sets
held_to : (all : List ℕ) (mask n : ℕ) → Contains all n → Holds mask n → Contains (filter (holds mask) all) n
held_to all mask n c h = contains _ _ (among_kept (holds mask) all n (among all n c) (eq-eqb _ n h))

held_from : (all : List ℕ) (mask n : ℕ) → Contains (filter (holds mask) all) n → Holds mask n
held_from all mask n c = eqb-true _ n (among_filter (holds mask) all n (among _ n c)).1

widths_held : (m : Masks) (k : NumberKind) → widths_in (sets_in m) k ≡ filter (holds (width_mask m k)) (widths k)
widths_held m IntKind = refl
widths_held m FloatKind = refl

lanes_held : (m : Masks) (b : Bool) → lanes_in (sets_in m) b ≡ filter (holds (lane_mask m b)) (lane_counts b)
lanes_held m false = refl
lanes_held m true = refl

pub mask_to : (m : Masks) (n : ℕ) → ContainsNumber m n → IsTypeNumber n × IsMember (sets_in m) (type_with n)
mask_to m n c =
    let t = c.type_of in
    let is = c.contained.is_type in
    let back : t ≡ type_with n = sym (type_back t is) ∙ ap type_with c.numbered in (
      subst IsTypeNumber c.numbered (number_is_one t is),
      subst (IsMember (sets_in m)) back (record {
        is_type = is;
        width = subst (λ (xs : List ℕ). Contains xs t.width) (sym (widths_held m t.kind))
            (held_to (widths t.kind) (width_mask m t.kind) t.width is.width c.contained.width);
        lanes = subst (λ (xs : List ℕ). Contains xs t.lanes) (sym (lanes_held m t.is_dynamic))
            (held_to (lane_counts t.is_dynamic) (lane_mask m t.is_dynamic) t.lanes is.lanes c.contained.lanes);
      }),
    )

pub mask_from : (m : Masks) (n : ℕ) → IsTypeNumber n → IsMember (sets_in m) (type_with n) → ContainsNumber m n
mask_from m n is h =
    let t = type_with n in
    record {
      type_of = t;
      contained = record {
        is_type = is.is_type;
        width = held_from (widths t.kind) (width_mask m t.kind) t.width
            (subst (λ (xs : List ℕ). Contains xs t.width) (widths_held m t.kind) h.width);
        lanes = held_from (lane_counts t.is_dynamic) (lane_mask m t.is_dynamic) t.lanes
            (subst (λ (xs : List ℕ). Contains xs t.lanes) (lanes_held m t.is_dynamic) h.lanes);
      };
      numbered = is.numbered;
    }

-- ---- in rising order

abbrev Rises : List ℕ → Type 0
Rises [] = Unit {0}
Rises (x ∷ xs) = ((y : ℕ) → Among xs y → x < y) × Rises xs

abbrev rises : List ℕ → Bool
rises [] = true
rises (x ∷ xs) = all_in xs (ltb x) && rises xs

rises_to : (xs : List ℕ) → rises xs ≡ true → Rises xs
rises_to [] e = tt
rises_to (x ∷ xs) e =
    let (first, rest) = and_parts (all_in xs (ltb x)) (rises xs) e in
    (λ y here. ltb-true x y (all_in_at xs (ltb x) first y here), rises_to xs rest)

filter_rises : (p : ℕ → Bool) (xs : List ℕ) → Rises xs → Rises (filter p xs)
filter_rises p [] h = tt
filter_rises p (x ∷ xs) h = elim (p x) as (λ b. Rises (cond b (x ∷ filter p xs) (filter p xs))) [
  | true ↦ (λ y here. h.0 y (among_filter p xs y here).0, filter_rises p xs h.1)
  | false ↦ filter_rises p xs h.1
]

rising : (xs : List ℕ) → Rises xs → (j k m n : ℕ) → j < k → slice_get xs j ≡ Some m → slice_get xs k ≡ Some n → m < n
rising [] h j k m n l at there = absurd (cc)
rising (x ∷ xs) h j zero m n l at there = absurd (omega (arith, l))
rising (x ∷ xs) h zero (suc k) m n l at there =
    subst (λ y. y < n) (same_Some x m at) (h.0 n (among xs n (contained_at xs k n there)))
rising (x ∷ xs) h (suc j) (suc k) m n l at there = rising xs h.1 j k m n (omega (arith, l)) at there

all_rise : rises type_numbers ≡ true
all_rise = refl

pub numbers_rise : (s : TypeSetParts) (j k m n : ℕ) → j < k → slice_get (numbers_in s) j ≡ Some m → slice_get (numbers_in s) k ≡ Some n
    → m < n
numbers_rise s = rising (numbers_in s) (filter_rises (λ n. is_in s (type_with n)) type_numbers (rises_to type_numbers all_rise))

-- the numbers of the types of a set are listed
pub numbers_listed : (m : Masks) → AreListed IsLess (ContainsNumber m) (numbers_in (sets_in m))
numbers_listed m = record {
  contains = λ n. (
    λ c. let (is, h) = numbers_to (sets_in m) n c in mask_from m n is h,
    λ c. let (is, h) = mask_to m n c in numbers_from (sets_in m) n is h,
  );
  order = numbers_rise (sets_in m);
}

-- ---- whether the types are exactly one set

pub all_to : (p : ℕ → Bool) (xs : List ℕ) → list_all p xs ≡ true → (n : ℕ) → Contains xs n → p n ≡ true
all_to p [] e n c = absurd (contains_none n c)
all_to p (x ∷ xs) e n c =
    let (first, rest) = and_parts (p x) (list_all p xs) e in
    ⊎_elim (λ is. subst (λ y. p y ≡ true) is first) (λ later. all_to p xs rest n later) (contains_cases x n xs c)

pub all_from : (p : ℕ → Bool) (xs : List ℕ) → ((n : ℕ) → Contains xs n → p n ≡ true) → list_all p xs ≡ true
all_from p [] h = refl
all_from p (x ∷ xs) h = and_from (p x) (list_all p xs) (h x (contains_first x xs)) (all_from p xs (λ n c. h n (contains_after x n xs c)))

module _ (ns : List ℕ) (m : Masks) (h : AreMasksOf (least_set ns) m) where
  pub one_set_from : ((n : ℕ) → ContainsNumber m n → Contains ns n) → is_one_set ns ≡ true
  one_set_from all = all_from (is_among ns) (numbers_in (least_set ns)) (λ n c.
      let (is, member) = numbers_to (least_set ns) n c in
      among_from ns n (all n (mask_from m n is (subst (λ s. IsMember s (type_with n)) (sym (least_sets ns m h)) member))))

  pub one_set_to : is_one_set ns ≡ true → (n : ℕ) → ContainsNumber m n → Contains ns n
  one_set_to e n c =
      let (is, member) = mask_to m n c in
      among_to ns n (all_to (is_among ns) (numbers_in (least_set ns)) e n
      (numbers_from (least_set ns) n is (subst (λ s. IsMember s (type_with n)) (least_sets ns m h) member)))
