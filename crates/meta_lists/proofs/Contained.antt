-- What a list contains, by its first element.
use Rattle.std.proofs.Common.{◌≡◌, ◌⊎◌, inl, inr, zero, suc, List, [], ◌∷◌, Contains, refl, arith}

pub contains_first : {X : Type 0} (x : X) (xs : List X) → Contains (x ∷ xs) x
contains_first x xs = (0, omega arith, refl)

pub contains_after : {X : Type 0} (x y : X) (xs : List X) → Contains xs y → Contains (x ∷ xs) y
contains_after x y xs (k, l, e) = (suc k, omega (arith, l), e)

-- an element of a list is its first, or one after the first
pub contains_cases : {X : Type 0} (x y : X) (xs : List X) → Contains (x ∷ xs) y → (x ≡ y) ⊎ Contains xs y
contains_cases x y xs (zero, l, e) = inl e
contains_cases x y xs (suc k, l, e) = inr (k, omega (arith, l), e)

pub contains_none : {X : Type 0} (y : X) → Contains [] y → ⊥
contains_none y (k, l, e) = omega (arith, l)
