-- The names of two types differ. Of types alone.
use Rattle.std.proofs.Common.{◌≡◌, Bool, true, ◌||◌, not, eqb, refl, sym, ◌∙◌, inl, inr, ◌⊎◌}
use Rattle.std.specs.Cmp.Lexicographic.{bytes_decides}
use Rattle.std.specs.Fmt.{digits}
use lib.Pointwise.{pointwise}
use Rattle.std.proofs.lemmas.Bool.{or_cases, not-true, false≢true}
use Rattle.meta_types.specs.TypeParts.{TypeParts, IsType, name_of}
use Rattle.meta_types.proofs.AllTypes.{at_all, at_all_types, same_parts, same_parts_true}

-- two types have two names, or are one
abbrev names_apart : TypeParts → TypeParts → Bool
names_apart a b = not (pointwise eqb (name_of a) (name_of b)) || same_parts a b

-- any two types have two names
all_names_apart : at_all (λ a. at_all (λ b. names_apart a b)) ≡ true
unfolding digits
all_names_apart = refl

-- two types with one name are one
pub one_name : (a b : TypeParts) → IsType a → IsType b → name_of a ≡ name_of b → a ≡ b
one_name a b is_a is_b e = by_case
    (or_cases _ _ (at_all_types (λ y. names_apart a y) (at_all_types (λ x. at_all (λ y. names_apart x y)) all_names_apart a is_a) b is_b))
  where
    -- the names differ, which they don't, or the types are one
    by_case : (not (pointwise eqb (name_of a) (name_of b)) ≡ true) ⊎ (same_parts a b ≡ true) → a ≡ b
    by_case (inl other) =
        absurd (false≢true (sym (not-true (pointwise eqb (name_of a) (name_of b)) other) ∙ (bytes_decides (name_of a) (name_of b)).1 e))
    by_case (inr same) = same_parts_true a b same
