-- Every mask of some allowed numbers, by trying all of them.
use Rattle.std.proofs.Common.{◌≡◌, ℕ, ◌==◌, ◌&&◌, Bool, true, false, not, cond, List, [], ◌∷◌, length, map, sum, eqb, ap, ◌∙◌, refl, zero}
use Rattle.std.proofs.Common.{suc}
use Rattle.std.specs.List.{filter}
use Rattle.std.proofs.lemmas.List.{length-map}
use Rattle.std.proofs.lemmas.Bool.{eqb-true, and_parts}
use Rattle.std.specs.Cmp.Lexicographic.{bytes_decides}
use lib.Pointwise.{pointwise}
use lib.Count.{ones}
use Rattle.meta_types.specs.TypeParts.{IntKind, FloatKind, widths, lane_counts}
use Rattle.meta_typevar.specs.MaskSets.{holds}

-- the test passes at each list of n marks
abbrev pub at_marks : ℕ → (List Bool → Bool) → Bool
at_marks zero p = p []
at_marks (suc n) p = at_marks n (λ ms. p (true ∷ ms)) && at_marks n (λ ms. p (false ∷ ms))

-- the numbers that are marked
abbrev pub marked : List Bool → List ℕ → List ℕ
marked [] xs = []
marked (m ∷ ms) [] = []
marked (m ∷ ms) (x ∷ xs) = cond m (x ∷ marked ms xs) (marked ms xs)

pub passes_at_marks : (p : List Bool → Bool) (ms : List Bool) → at_marks (length ms) p ≡ true → p ms ≡ true
passes_at_marks p [] e = e
passes_at_marks p (true ∷ ms) e = passes_at_marks (λ ms. p (true ∷ ms)) ms (and_parts _ _ e).0
passes_at_marks p (false ∷ ms) e = passes_at_marks (λ ms. p (false ∷ ms)) ms (and_parts _ _ e).1

pub filter_marked : (p : ℕ → Bool) (xs : List ℕ) → filter p xs ≡ marked (map p xs) xs
filter_marked p [] = refl
filter_marked p (x ∷ xs) = ap (λ ys. cond (p x) (x ∷ ys) ys) (filter_marked p xs)

-- the first two numbers, if there are two, differ
abbrev pub differ : List ℕ → Bool
differ [] = true
differ (x ∷ []) = true
differ (x ∷ y ∷ ys) = not (x == y)

-- the sum of these numbers, of those that are allowed, holds just them, and has as many bits; and they differ
abbrev is_kept : List ℕ → List ℕ → Bool
is_kept all xs = pointwise eqb (filter (holds (sum xs)) all) xs && ((ones (sum xs) == length xs) && differ xs)

abbrev pub keeps : List ℕ → Bool
keeps all = at_marks (length all) (λ ms. is_kept all (marked ms all))

pub ints_keep : keeps (widths IntKind) ≡ true
unfolding ones
ints_keep = refl

pub floats_keep : keeps (widths FloatKind) ≡ true
unfolding ones
floats_keep = refl

pub lanes_keep : keeps (lane_counts false) ≡ true
unfolding ones
lanes_keep = refl

pub dynamic_lanes_keep : keeps (lane_counts true) ≡ true
unfolding ones
dynamic_lanes_keep = refl

-- so it is with what passes any test
kept : (all : List ℕ) → keeps all ≡ true → (p : ℕ → Bool) → is_kept all (filter p all) ≡ true
kept all e p =
    let n : at_marks (length (map p all)) (λ ms. is_kept all (marked ms all)) ≡ true =
    ap (λ n. at_marks n (λ ms. is_kept all (marked ms all))) (length-map all p) ∙ e in
    ap (is_kept all) (filter_marked p all) ∙ passes_at_marks (λ ms. is_kept all (marked ms all)) (map p all) n

pub holds_sum : (all : List ℕ) → keeps all ≡ true → (p : ℕ → Bool) → filter (holds (sum (filter p all))) all ≡ filter p all
holds_sum all e p = (bytes_decides _ _).0 (and_parts _ _ (kept all e p)).0

pub ones_sum : (all : List ℕ) → keeps all ≡ true → (p : ℕ → Bool) → ones (sum (filter p all)) ≡ length (filter p all)
ones_sum all e p = eqb-true _ _ (and_parts _ _ (and_parts _ _ (kept all e p)).1).0

pub filter_differ : (all : List ℕ) → keeps all ≡ true → (p : ℕ → Bool) → differ (filter p all) ≡ true
filter_differ all e p = (and_parts _ _ (and_parts _ _ (kept all e p)).1).1
