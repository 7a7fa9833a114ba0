-- The list of all types has each of them once.
use Rattle.std.proofs.Common.{◌≡◌, ℕ, zero, suc, ◌+◌, ◌-◌, ◌*◌, ◌/◌, ◌%◌, ◌==◌, ◌<◌, ◌↔◌, ◌∙◌, sym, ap, subst, refl, arith, inl, inr, ◌⊎◌}
use Rattle.std.proofs.Common.{Bool, true, false, ◌&&◌, ◌||◌, List, [], ◌∷◌, length, Contains, le_of_suc-le-suc, get_or}
use Rattle.std.specs.List.{slice_get}
use Rattle.std.specs.Prelude.{Some}
use Rattle.std.proofs.Math.Nat.{zero-add}
use Rattle.std.proofs.lemmas.Option.{get_or_from_slice_get, slice_get_within}
use Rattle.std.proofs.lemmas.Bool.{and_parts, or_cases, eqb-true, false≢true}
use Rattle.meta_types.specs.TypeParts.{TypeParts, IsType, widths, lane_counts, number_of}
use Rattle.meta_types.specs.AllTypes.{all_types}
use Rattle.meta_types.proofs.AllTypes.{at_all, at_all_types, same_parts, same_parts_true}

-- the list has the type
abbrev has : List TypeParts → TypeParts → Bool
has [] t = false
has (x ∷ xs) t = same_parts x t || has xs t

has_contained : (xs : List TypeParts) (t : TypeParts) → has xs t ≡ true → Contains xs t
has_contained [] t e = absurd (false≢true e)
has_contained (x ∷ xs) t e = by_case (or_cases (same_parts x t) (has xs t) e) (has_contained xs t)
  where
    by_case : (same_parts x t ≡ true) ⊎ (has xs t ≡ true) → (has xs t ≡ true → Contains xs t) → Contains (x ∷ xs) t
    by_case (inl same) below = (0, omega arith, same_parts_true x t same)
    by_case (inr rest) below = let c = below rest in (suc c.0, omega (arith, c.1), c.2)

all_listed : at_all (λ t. has all_types t) ≡ true
all_listed = refl

-- and no more
abbrev is_in : List ℕ → ℕ → Bool
is_in [] n = false
is_in (x ∷ xs) n = x == n || is_in xs n

is_in_contained : (xs : List ℕ) (n : ℕ) → is_in xs n ≡ true → Contains xs n
is_in_contained [] n e = absurd (false≢true e)
is_in_contained (x ∷ xs) n e = by_case (or_cases (x == n) (is_in xs n) e) (is_in_contained xs n)
  where
    by_case : (x == n ≡ true) ⊎ (is_in xs n ≡ true) → (is_in xs n ≡ true → Contains xs n) → Contains (x ∷ xs) n
    by_case (inl same) below = (0, omega arith, eqb-true x n same)
    by_case (inr rest) below = let c = below rest in (suc c.0, omega (arith, c.1), c.2)

abbrev is_type : TypeParts → Bool
is_type t = is_in (widths t.kind) t.width && is_in (lane_counts t.is_dynamic) t.lanes

abbrev all_of : (TypeParts → Bool) → List TypeParts → Bool
all_of p [] = true
all_of p (x ∷ xs) = p x && all_of p xs

all_of_at : (p : TypeParts → Bool) (xs : List TypeParts) (t : TypeParts) → all_of p xs ≡ true → Contains xs t → p t ≡ true
all_of_at p [] t e (k, l, is) = absurd (omega arith)
all_of_at p (x ∷ xs) t e (zero, l, is) = subst (λ (y : TypeParts). p y ≡ true) is (and_parts (p x) (all_of p xs) e).0
all_of_at p (x ∷ xs) t e (suc k, l, is) = all_of_at p xs t (and_parts (p x) (all_of p xs) e).1 (k, le_of_suc-le-suc l, is)

all_types_are : all_of is_type all_types ≡ true
all_types_are = refl

is_type_true : (t : TypeParts) → is_type t ≡ true → IsType t
is_type_true t e =
    let p = and_parts (is_in (widths t.kind) t.width) (is_in (lane_counts t.is_dynamic) t.lanes) e in
    record { width = is_in_contained _ _ p.0; lanes = is_in_contained _ _ p.1 }

pub listed : (t : TypeParts) → (IsType t ↔ Contains all_types t)
listed t = (
  λ h. has_contained all_types t (at_all_types (λ t. has all_types t) all_listed t h),
  λ c. is_type_true t (all_of_at is_type all_types t all_types_are c),
)

-- the place of a number in the list: nine types to a row of sixteen numbers
abbrev place : ℕ → ℕ
place n = 9 * ((n - 116) / 16) + (n - 116) % 16

abbrev placed : (TypeParts → ℕ) → ℕ → List TypeParts → Bool
placed p k [] = true
placed p k (x ∷ xs) = p x == k && placed p (suc k) xs

all_placed : placed (λ t. place (number_of t)) 0 all_types ≡ true
all_placed = refl

placed_at : (p : TypeParts → ℕ) (k : ℕ) (xs : List TypeParts) (j : ℕ) (t : TypeParts) → placed p k xs ≡ true
    → j < length xs → p (get_or xs j t) ≡ k + j
placed_at p k [] j t e l = absurd (omega arith)
placed_at p k (x ∷ xs) zero t e l = let h = eqb-true (p x) k (and_parts (p x == k) (placed p (suc k) xs) e).0 in omega arith
placed_at p k (x ∷ xs) (suc j) t e l =
    let h = placed_at p (suc k) xs j t (and_parts (p x == k) (placed p (suc k) xs) e).1 (le_of_suc-le-suc l) in omega arith

-- so a type has one place
at_place : (j : ℕ) (t : TypeParts) → slice_get all_types j ≡ Some t → place (number_of t) ≡ j
at_place j t g =
    let h = placed_at (λ s. place (number_of s)) 0 all_types j t all_placed (slice_get_within all_types j t g) in
    ap (λ (s : TypeParts). place (number_of s)) (sym (get_or_from_slice_get all_types j t t g)) ∙ h ∙ zero-add j

pub once : (j k : ℕ) (t : TypeParts) → slice_get all_types j ≡ Some t → slice_get all_types k ≡ Some t → j ≡ k
once j k t g h = sym (at_place j t g) ∙ at_place k t h
