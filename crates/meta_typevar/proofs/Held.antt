-- The numbers that a mask holds, as a loop passes over all that it may hold.
use Rattle.std.proofs.Common.{◌≡◌, ℕ, ◌+◌, ◌<◌, Bool, true, false, cond, List, [], ◌∷◌, ◌++◌, length, take, ap, ◌∙◌, refl, zero, suc, arith}
use Rattle.std.proofs.Common.{slice_index_or, bit_and}
use Rattle.std.specs.List.{filter}
use Rattle.std.proofs.lemmas.Bool.{eq-eqb, eqb-true}
use Rattle.std.proofs.lemmas.List.{append-nil}
use Rattle.std.proofs.lemmas.List.Elements.{filter_more}
use Rattle.meta_typevar.specs.Image.{has_some}
use Rattle.meta_typevar.specs.MaskSets.{holds}

-- a number that is held comes after those before it
pub held_more : (mask : ℕ) (xs : List ℕ) (i : ℕ) → i < length xs → bit_and mask (slice_index_or xs i 0) ≡ slice_index_or xs i 0
    → filter (holds mask) (take (i + 1) xs) ≡ filter (holds mask) (take i xs) ++ slice_index_or xs i 0 ∷ []
held_more mask xs i l e =
    let x = slice_index_or xs i 0 in
    filter_more (holds mask) xs i 0 l
    ∙ ap (λ (b : Bool). filter (holds mask) (take i xs) ++ cond b (x ∷ []) []) (eq-eqb (bit_and mask x) x e)

not_held : (mask x : ℕ) → (bit_and mask x ≡ x → ⊥) → holds mask x ≡ false
not_held mask x n = elim (holds mask x) as (λ b. holds mask x ≡ b → b ≡ false) [
  | true ↦ λ e. absurd (n (eqb-true _ _ e))
  | false ↦ λ e. refl
] refl

-- one that isn't held doesn't
pub held_same : (mask : ℕ) (xs : List ℕ) (i : ℕ) → i < length xs → (bit_and mask (slice_index_or xs i 0) ≡ slice_index_or xs i 0 → ⊥)
    → filter (holds mask) (take (i + 1) xs) ≡ filter (holds mask) (take i xs)
held_same mask xs i l n =
    let x = slice_index_or xs i 0 in
    filter_more (holds mask) xs i 0 l ∙ ap (λ (b : Bool). filter (holds mask) (take i xs) ++ cond b (x ∷ []) []) (not_held mask x n)
    ∙ append-nil _

-- where one is held there are some
pub some_held : (mask : ℕ) (xs : List ℕ) (i : ℕ) → i < length xs → bit_and mask (slice_index_or xs i 0) ≡ slice_index_or xs i 0
    → has_some (filter (holds mask) xs) ≡ true
some_held mask [] i l e = absurd (omega arith)
some_held mask (x ∷ xs) zero l e =
    ap (λ (b : Bool). has_some (cond b (x ∷ filter (holds mask) xs) (filter (holds mask) xs))) (eq-eqb (bit_and mask x) x e)
some_held mask (x ∷ xs) (suc i) l e =
    elim (holds mask x) as (λ b. has_some (cond b (x ∷ filter (holds mask) xs) (filter (holds mask) xs)) ≡ true) [
      | true ↦ refl
      | false ↦ some_held mask xs i (omega arith) e
    ]

pub some_pushed : (xs : List ℕ) (x : ℕ) → has_some (xs ++ x ∷ []) ≡ true
some_pushed [] x = refl
some_pushed (y ∷ ys) x = refl
