-- The text of a list, an element at a time.
use Rattle.std.proofs.Common.{◌≡◌, ℕ, ◌+◌, ◌<◌, ◌≤◌, ◌⊎◌, inl, inr, List, ◌∷◌, ◌++◌, length, drop, get_or, slice_get, Some, None, sym, ap}
use Rattle.std.proofs.Common.{ap₂, ◌∙◌, append_assoc, add-one, drop-cons, arith}
use Rattle.std.specs.List.{flat_map}
use Rattle.std.proofs.lemmas.Option.{slice_get_cases}

-- the rest of a list from a place on is the element there, and the rest after it
pub rest_there : {X : Type 0} (xs : List X) (i : ℕ) (x : X) → i < length xs → get_or xs i x ≡ x → drop i xs ≡ x ∷ drop (i + 1) xs
rest_there xs i x inside got = drop-cons xs i x inside ∙ ap₂ (λ y ys. y ∷ ys) got (ap (λ k. drop k xs) (sym (add-one i)))

-- with the text of the element at a place added, what was left is left without it
pub next_text : {X : Type 0} (f : X → List ℕ) (xs : List X) (i : ℕ) (old out new : List ℕ) → i < length xs
    → ((x : X) → slice_get xs i ≡ Some x → new ≡ out ++ f x) → out ++ flat_map f (drop i xs) ≡ old
    → new ++ flat_map f (drop (i + 1) xs) ≡ old
next_text {X} f xs i old out new inside added before = by_case (slice_get_cases xs i).1
  where
    by_case : ((x : X) × (i < length xs) × (slice_get xs i ≡ Some x) × (get_or xs i x ≡ x)) ⊎ ((length xs ≤ i) × (slice_get xs i ≡ None))
        → new ++ flat_map f (drop (i + 1) xs) ≡ old
    by_case (inl (x, l, at, got)) =
        ap (λ o. o ++ flat_map f (drop (i + 1) xs)) (added x at)
        ∙ append_assoc out (f x) (flat_map f (drop (i + 1) xs))
        ∙ ap (λ ys. out ++ flat_map f ys) (sym (rest_there xs i x l got))
        ∙ before
    by_case (inr (past, e)) = absurd (omega (arith, inside, past))
