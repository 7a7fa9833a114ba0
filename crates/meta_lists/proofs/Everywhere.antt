-- What is so of each element of a list, place by place.
use Rattle.std.proofs.Common.{◌≡◌, ◌↔◌, ℕ, ◌+◌, ◌<◌, ◌≤◌, ⊎_elim, true, false, IsTrue, List, All, length, slice_get, get_or, Some, refl}
use Rattle.std.proofs.Common.{sym, ◌∙◌, subst, arith}
use Rattle.std.proofs.lemmas.Bool.{cases_eq, false≢true}
use Rattle.std.proofs.lemmas.Option.{slice_get-get_or, slice_get_within, get_or_from_slice_get, same_Some}

-- what holds at each place holds of all elements
pub everywhere : {X : Type 0} {P : X → Type 0} (xs : List X) → ((k : ℕ) (x : X) → slice_get xs k ≡ Some x → P x) → All P xs
everywhere xs h = λ k d l. h k (get_or xs k d) (slice_get-get_or xs k d l)

pub at_place : {X : Type 0} (P : X → Type 0) (xs : List X) (k : ℕ) (x : X) → All P xs → slice_get xs k ≡ Some x → P x
at_place P xs k x a at = subst P (get_or_from_slice_get xs k x x at) (a k x (slice_get_within xs k x at))

-- what holds at the places so far, and at the next, holds at one place more
pub one_place_more : {X : Type 0} (P : ℕ → X → Type 0) (xs : List X) (n : ℕ) (x : X) → slice_get xs n ≡ Some x → P n x
    → ((k : ℕ) (y : X) → k < n → slice_get xs k ≡ Some y → P k y) → (k : ℕ) (y : X) → k < n + 1 → slice_get xs k ≡ Some y → P k y
one_place_more P xs n x here p before k y l at = ⊎_elim
    (λ same. subst (λ m. slice_get xs m ≡ Some y → P m y) (sym same) (λ there. subst (P n) (same_Some x y (sym here ∙ there)) p) at)
    (λ other. before k y (omega (arith, l, other)) at)
    (cases_eq k n)

-- P holds of the elements before a place
abbrev pub SoFar : {X : Type 0} → (X → Type 0) → List X → ℕ → Type 0
SoFar {X} P xs n = (k : ℕ) (d : X) → k < n → P (get_or xs k d)

pub so_far_none : {X : Type 0} (P : X → Type 0) (xs : List X) → SoFar P xs 0
so_far_none P xs = λ k d l. absurd (omega (arith, l))

pub so_far_more : {X : Type 0} (P : X → Type 0) (xs : List X) (n : ℕ) (x : X) → n < length xs → P (get_or xs n x) → SoFar P xs n
    → SoFar P xs (n + 1)
so_far_more P xs n x within p so = λ k d l. ⊎_elim
    (λ same. subst (λ m. P (get_or xs m d)) (sym same)
    (subst P (sym (get_or_from_slice_get xs n (get_or xs n x) d (slice_get-get_or xs n x within))) p))
    (λ other. so k d (omega (arith, l, other)))
    (cases_eq k n)

pub so_far_all : {X : Type 0} (P : X → Type 0) (xs : List X) (n : ℕ) → length xs ≤ n → SoFar P xs n → IsTrue true ↔ All P xs
so_far_all P xs n past so = (λ t k d l. so k d (omega (arith, l, past)), λ all. refl)

-- what fails for one element doesn't hold of all
pub not_of_all : {X : Type 0} (P : X → Type 0) (xs : List X) (k : ℕ) (x : X) → k < length xs → (P (get_or xs k x) → ⊥)
    → IsTrue false ↔ All P xs
not_of_all P xs k x within never = (λ t. absurd (false≢true t), λ all. absurd (never (all k x within)))
