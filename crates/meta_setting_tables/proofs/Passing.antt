-- How many elements of a list pass a test.
use Rattle.std.proofs.Common.{◌≡◌, ◌⊎◌, inl, inr, ℕ, ◌+◌, ◌<◌, ◌≤◌, zero, suc, Bool, true, false, cond, List, [], ◌∷◌, length, slice_get}
use Rattle.std.proofs.Common.{Some, refl, ap, ◌∙◌, arith}
use Rattle.std.specs.Prelude.{filter}

-- as many pass as there are places where they do: the first, and those between two places
counted_first : {X : Type 0} (p : X → Bool) (xs : List X) (n : ℕ) → n ≤ length xs
    → ((k : ℕ) (x : X) → slice_get xs k ≡ Some x → k < n → p x ≡ true)
    → ((k : ℕ) (x : X) → slice_get xs k ≡ Some x → n ≤ k → p x ≡ false) → length (filter p xs) ≡ n
counted_first p [] n l on off = omega (arith, l)
counted_first p (x ∷ xs) zero l on off =
    let none = counted_first p xs zero (omega arith) (λ k y at b. absurd (omega (arith, b))) (λ k y at b. off (suc k) y at (omega arith)) in
    ap (λ b. length (cond b (x ∷ filter p xs) (filter p xs))) (off 0 x refl (omega arith)) ∙ none
counted_first p (x ∷ xs) (suc n) l on off =
    let rest = counted_first p xs n (omega (arith, l)) (λ k y at b. on (suc k) y at (omega (arith, b)))
    (λ k y at b. off (suc k) y at (omega (arith, b))) in
    ap (λ b. length (cond b (x ∷ filter p xs) (filter p xs))) (on 0 x refl (omega arith)) ∙ ap suc rest

pub counted_between : {X : Type 0} (p : X → Bool) (xs : List X) (from n : ℕ) → from + n ≤ length xs
    → ((k : ℕ) (x : X) → slice_get xs k ≡ Some x → from ≤ k → k < from + n → p x ≡ true)
    → ((k : ℕ) (x : X) → slice_get xs k ≡ Some x → (k < from) ⊎ (from + n ≤ k) → p x ≡ false) → length (filter p xs) ≡ n
counted_between p xs zero n l on off = counted_first p xs n (omega (arith, l))
    (λ k x at b. on k x at (omega arith) (omega (arith, b))) (λ k x at b. off k x at (inr (omega (arith, b))))
counted_between p [] (suc from) n l on off = absurd (omega (arith, l))
counted_between p (x ∷ xs) (suc from) n l on off =
    let rest = counted_between p xs from n (omega (arith, l))
    (λ k y at a b. on (suc k) y at (omega (arith, a)) (omega (arith, b))) (λ k y at e. off (suc k) y at (outside k e)) in
    ap (λ b. length (cond b (x ∷ filter p xs) (filter p xs))) (off 0 x refl (inl (omega arith))) ∙ rest
  where
    outside : (k : ℕ) → (k < from) ⊎ (from + n ≤ k) → (suc k < suc from) ⊎ (suc from + n ≤ suc k)
    outside k (inl b) = inl (omega (arith, b))
    outside k (inr b) = inr (omega (arith, b))
