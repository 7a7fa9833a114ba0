-- Types by their numbers, and lists of them.
use Rattle.std.proofs.Common.{◌≡◌, ◌≢◌, ◌<◌, ◌+◌, ℕ, suc, List, [], ◌∷◌, length, All, Option, None, Some, IfSome, IfNone, refl, sym, ◌∙◌, subst}
use Rattle.std.proofs.Common.{arith}
use Rattle.std.specs.Prelude.{IsSome}
use Rattle.std.proofs.lemmas.Option.{same_Some}
use Rattle.meta_types.specs.TypeParts.{TypeParts, IsType, number_of}
use Rattle.meta_types.specs.TypeNumber.{type_with, IsTypeNumber}
use Rattle.meta_types.specs.ValueTypes.{type_parts_of}
use Rattle.meta_types.specs.declared.value_type.ValueType.{ValueType}
use Rattle.meta_types.proofs.Numbers.{one_number}
use Rattle.meta_types.proofs.Typed.{typed}

-- there is a type with the number of a type
pub some_numbered : (o : Option ValueType) (n : ℕ) → IsTypeNumber n → IfNone o ((t : TypeParts) → IsType t → number_of t ≢ n) → IsSome o
some_numbered None n is none = absurd (none (type_with n) is.is_type is.numbered)
some_numbered (Some t) n is none = refl

-- and it is that type
pub is_numbered : (o : Option ValueType) (v : ValueType) (n : ℕ) → IsTypeNumber n → o ≡ Some v
    → IfSome o (λ t. number_of (type_parts_of t) ≡ n) → type_parts_of v ≡ type_with n
is_numbered o v n is e found =
    let here = subst (λ p. IfSome p (λ t. number_of (type_parts_of t) ≡ n)) e found in
    one_number (type_parts_of v) (type_with n) (typed v) is.is_type (here ∙ sym is.numbered)

-- what is so of all is so of the first, and of the rest
pub all_first : (P : ℕ → Type 0) (x : ℕ) (xs : List ℕ) → All P (x ∷ xs) → P x
all_first P x xs h = h 0 x (omega arith)

pub all_rest : (P : ℕ → Type 0) (x : ℕ) (xs : List ℕ) → All P (x ∷ xs) → All P xs
all_rest P x xs h = λ k d l. h (suc k) d (omega (arith, l))
