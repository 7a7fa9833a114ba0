-- Lists with one more at their end.
use Rattle.std.proofs.Common.{◌≡◌, ◌<◌, ◌+◌, ◌-◌, ℕ, ◌⊎◌, inl, inr, ⊎_elim, zero, suc, List, [], ◌∷◌, ◌++◌, length, take, slice_get, Some}
use Rattle.std.proofs.Common.{refl, ap, ◌∙◌, arith, length-append}
use Rattle.std.proofs.Math.Seq.{take-append_seam}
use Rattle.std.proofs.lemmas.Option.{slice_get_within}
use Rattle.meta_lists.proofs.Places.{get_left, get_stays, get_seam}

pub get_end : {X : Type 0} (xs : List X) (y : X) → slice_get (xs ++ y ∷ []) (length xs) ≡ Some y
get_end xs y = get_seam xs y []

pub get_before : {X : Type 0} (xs : List X) (y : X) (k : ℕ) → k < length xs → slice_get (xs ++ y ∷ []) k ≡ slice_get xs k
get_before xs y k l = get_left xs (y ∷ []) k l

-- an element of the list stays at its place
pub get_kept : {X : Type 0} (xs : List X) (y : X) (k : ℕ) (x : X) → slice_get xs k ≡ Some x → slice_get (xs ++ y ∷ []) k ≡ Some x
get_kept xs y k x e = get_stays xs (y ∷ []) k x e

-- an element is one of the list, or the new one
pub get_pushed : {X : Type 0} (xs : List X) (y : X) (k : ℕ) (z : X) → slice_get (xs ++ y ∷ []) k ≡ Some z
    → (slice_get xs k ≡ Some z) ⊎ ((k ≡ length xs) × (y ≡ z))
get_pushed [] y zero z e = inr (refl, (cc))
get_pushed [] y (suc k) z e = absurd (cc)
get_pushed (x ∷ xs) y zero z e = inl e
get_pushed (x ∷ xs) y (suc k) z e = ⊎_elim (λ h. inl h) (λ h. inr (omega (arith, h.0), h.1)) (get_pushed xs y k z e)

-- an element is one of the list, before its end, or the new one
pub get_pushed_below : {X : Type 0} (xs : List X) (y : X) (k : ℕ) (z : X) → slice_get (xs ++ y ∷ []) k ≡ Some z
    → ((k < length xs) × (slice_get xs k ≡ Some z)) ⊎ ((k ≡ length xs) × (y ≡ z))
get_pushed_below xs y k z e = ⊎_elim (λ at. inl (slice_get_within xs k z at, at)) (λ h. inr h) (get_pushed xs y k z e)

-- a list that gained an element and then lost it is as before
pub popped : {X : Type 0} (xs more less : List X) (x : X) (n : ℕ) → more ≡ xs ++ x ∷ [] → n ≡ length more
    → less ≡ take (n - 1) more → less ≡ xs
popped {X} xs more less x n e len f =
    let at : n - 1 ≡ length xs = omega (arith, len, ap length e, length-append xs (x ∷ [])) in
    f ∙ ap (λ k. take k more) at ∙ ap (take (length xs)) e ∙ take-append_seam xs (x ∷ [])

-- a list with one more at its end isn't empty
pub not_empty : {X : Type 0} (xs : List X) (x : X) → xs ++ x ∷ [] ≡ [] → ⊥
not_empty [] x e = (cc)
not_empty (y ∷ ys) x e = (cc)

-- ---- a list by an equation

module _ {X : Type 0} (old new : List X) (x : X) (added : new ≡ old ++ x ∷ []) where
  -- an element of the old list stays at its place
  pub stays : (k : ℕ) (y : X) → slice_get old k ≡ Some y → slice_get new k ≡ Some y
  stays k y at = ap (λ xs. slice_get xs k) added ∙ get_stays old (x ∷ []) k y at

  -- the new one is at the end
  pub last : (k : ℕ) → k ≡ length old → slice_get new k ≡ Some x
  last k e = ap (slice_get new) e ∙ ap (λ xs. slice_get xs (length old)) added ∙ get_end old x

  -- the new list is longer by one
  pub one_longer : length new ≡ length old + 1
  one_longer = ap length added ∙ length-append old (x ∷ [])
