-- Sets of powers of two as masks: the sum of a part of a short list holds a power of two exactly where the part contains it.
-- Of the lists of widths and lane counts alone.
--     holds_what_it_contains      a mask of a part of a tested list holds what the part contains, and nothing else
use Rattle.std.proofs.Common.{◌≡◌, ℕ, suc, ◌==◌, ◌↔◌, ◌⊎◌, Bool, true, false, ◌||◌, List, [], ◌∷◌, length, map, Contains, bit_and, sum}
use Rattle.std.proofs.Common.{refl, sym, ap, ◌∙◌, subst, suc-le-suc, zero-lt-suc, inl, inr, arith}
use Rattle.std.proofs.lemmas.Bool.{or_cases, or_left, or_right, eqb-true, eq-eqb}
use Rattle.std.proofs.lemmas.List.{length-map}
use Rattle.meta_lists.proofs.Contained.{contains_cases}
use Rattle.meta_types.specs.TypeParts.{IntKind, FloatKind, widths, lane_counts}
use Rattle.meta_types.specs.Function.{same_mark}
use Rattle.meta_typevar.specs.TypeSetParts.{IsPart}
use Rattle.meta_typevar.specs.Masks.{Holds}
use Rattle.meta_types.proofs.AllTypes.{at_each, at_each_contained, same_mark_true}
use Rattle.meta_typevar.proofs.Marks.{at_marks, marked, filter_marked, passes_at_marks}
use Rattle.meta_typevar.specs.Image.{is_among}

-- a list contains what is among it
pub has_true : (xs : List ℕ) (n : ℕ) → is_among xs n ≡ true → Contains xs n
has_true [] n e = absurd (cc)
has_true (x ∷ xs) n e = by_case (or_cases (x == n) (is_among xs n) e) (has_true xs n)
  where
    -- it is the first, or one of the rest
    by_case : ((x == n) ≡ true) ⊎ (is_among xs n ≡ true) → (is_among xs n ≡ true → Contains xs n) → Contains (x ∷ xs) n
    by_case (inl first) below = (0, zero-lt-suc _, eqb-true x n first)
    by_case (inr later) below = let (k, l, is) = below later in (suc k, suc-le-suc l, is)

-- and what it contains is among it
pub true_has : (xs : List ℕ) (n : ℕ) → Contains xs n → is_among xs n ≡ true
true_has [] n (k, l, e) = absurd (omega arith)
true_has (x ∷ xs) n c = by_case (contains_cases x n xs c) (true_has xs n)
  where
    -- it is the first, or one of the rest
    by_case : (x ≡ n) ⊎ Contains xs n → (Contains xs n → is_among xs n ≡ true) → ((x == n) || is_among xs n) ≡ true
    by_case (inl first) below = or_left (x == n) (is_among xs n) (eq-eqb x n first)
    by_case (inr later) below = or_right (x == n) (is_among xs n) (below later)

-- for these marks the sum holds each number of the list exactly where it is kept
abbrev pub tells : List ℕ → List Bool → Bool
tells all bs = let kept = marked bs all in let mask = sum kept in at_each (λ x. same_mark (bit_and mask x == x) (is_among kept x)) all

-- for each list of marks
abbrev pub all_tell : List ℕ → Bool
all_tell all = at_marks (length all) (tells all)

-- the lane counts of scalars and fixed vectors pass the test
pub fixed_lanes_tell : all_tell (lane_counts false) ≡ true
fixed_lanes_tell = refl

-- so do those of dynamic vectors
pub dynamic_lanes_tell : all_tell (lane_counts true) ≡ true
dynamic_lanes_tell = refl

-- so do the int widths
pub ints_tell : all_tell (widths IntKind) ≡ true
ints_tell = refl

-- so do the float widths
pub floats_tell : all_tell (widths FloatKind) ≡ true
floats_tell = refl

-- the mask of a part of a tested list has one answer with the part
mask_answers : (all xs : List ℕ) (n : ℕ) → all_tell all ≡ true → IsPart xs all → Contains all n → (bit_and (sum xs) n == n) ≡ is_among xs n
mask_answers all xs n tested part c =
    let kept : xs ≡ marked (map part.test all) all = part.is ∙ filter_marked part.test all in
    let told = passes_at_marks (tells all) (map part.test all) (ap (λ n. at_marks n (tells all)) (length-map all part.test) ∙ tested) in
    let here = same_mark_true _ _ (at_each_contained (λ x. same_mark (bit_and (sum (marked (map part.test all) all)) x == x)
    (is_among (marked (map part.test all) all) x)) all n told c) in
    subst (λ ys. (bit_and (sum ys) n == n) ≡ is_among ys n) (sym kept) here

-- The mask of a part of a tested list holds what the part contains, and of the list nothing else.
pub holds_what_it_contains : (all xs : List ℕ) (n : ℕ) → all_tell all ≡ true → IsPart xs all → Contains all n
    → (Holds (sum xs) n ↔ Contains xs n)
holds_what_it_contains all xs n tested part c =
    let e = mask_answers all xs n tested part c in
    ((λ h. has_true xs n (sym e ∙ eq-eqb (bit_and (sum xs) n) n h)), (λ h. eqb-true (bit_and (sum xs) n) n (e ∙ true_has xs n h)))
