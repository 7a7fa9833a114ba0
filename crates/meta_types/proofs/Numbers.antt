-- The numbers of two types differ. Of types alone.
use Rattle.std.proofs.Common.{◌≡◌, ◌==◌, Bool, true, ◌||◌, not, refl, sym, ◌∙◌, inl, inr, ◌⊎◌}
use Rattle.std.proofs.lemmas.Bool.{or_cases, not-true, false≢true, eq-eqb}
use Rattle.meta_types.specs.TypeParts.{TypeParts, IsType, number_of}
use Rattle.meta_types.proofs.AllTypes.{at_all, at_all_types, same_parts, same_parts_true}

-- two types have two numbers, or are one
abbrev numbers_apart : TypeParts → TypeParts → Bool
numbers_apart a b = not (number_of a == number_of b) || same_parts a b

-- any two types have two numbers
all_numbers_apart : at_all (λ a. at_all (λ b. numbers_apart a b)) ≡ true
all_numbers_apart = refl

-- two types with one number are one
pub one_number : (a b : TypeParts) → IsType a → IsType b → number_of a ≡ number_of b → a ≡ b
one_number a b is_a is_b e = by_case
    (or_cases _ _ (at_all_types (λ y. numbers_apart a y) (at_all_types (λ x. at_all (λ y. numbers_apart x y)) all_numbers_apart a is_a) b
    is_b))
  where
    -- the numbers differ, which they don't, or the types are one
    by_case : (not (number_of a == number_of b) ≡ true) ⊎ (same_parts a b ≡ true) → a ≡ b
    by_case (inl other) = absurd (false≢true (sym (not-true (number_of a == number_of b) other) ∙ eq-eqb (number_of a) (number_of b) e))
    by_case (inr same) = same_parts_true a b same
