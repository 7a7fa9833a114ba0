-- Tests of each number of a list, each kind and each mark.
use Rattle.std.proofs.Common.{◌≡◌, ℕ, ◌+◌, ◌==◌, ◌<◌, ◌≤◌, ◌↔◌, inl, inr, ⊎_elim, Bool, true, false, not, ◌&&◌, ◌||◌, cond, List, [], ◌∷◌}
use Rattle.std.proofs.Common.{eqb, ap, sym, subst, refl, ◌∙◌, zero, suc, arith}
use Rattle.std.specs.List.{filter}
use Rattle.std.proofs.lemmas.Bool.{false≢true, cases_lt, eqb-true, and_parts}
use Rattle.meta_types.specs.TypeParts.{NumberKind, IntKind, FloatKind}
use Rattle.meta_types.proofs.Among.{Among}

-- where one test implies another
pub implies : (a b : Bool) → (not a || b) ≡ true → a ≡ true → b ≡ true
implies true b e h = e
implies false b e h = absurd (false≢true h)

-- the test passes at each number of the list
abbrev pub all_in : List ℕ → (ℕ → Bool) → Bool
all_in [] p = true
all_in (x ∷ xs) p = p x && all_in xs p

pub all_in_at : (xs : List ℕ) (p : ℕ → Bool) → all_in xs p ≡ true → (x : ℕ) → Among xs x → p x ≡ true
all_in_at [] p e x h = absurd h
all_in_at (y ∷ ys) p e x (inl h) = subst (λ (z : ℕ). p z ≡ true) (sym h) (and_parts _ _ e).0
all_in_at (y ∷ ys) p e x (inr h) = all_in_at ys p (and_parts _ _ e).1 x h

-- whether the number is in the list
abbrev pub is_in : List ℕ → ℕ → Bool
is_in [] x = false
is_in (y ∷ ys) x = (x == y) || is_in ys x

pub is_in_among : (xs : List ℕ) (x : ℕ) → is_in xs x ≡ true → Among xs x
is_in_among [] x e = absurd (false≢true e)
is_in_among (y ∷ ys) x e = elim (eqb x y) as (λ b. (eqb x y ≡ b) → (b || is_in ys x) ≡ true → Among (y ∷ ys) x) [
  | true ↦ λ t _. inl (eqb-true x y t)
  | false ↦ λ _ h. inr (is_in_among ys x h)
] refl e

-- n numbers from lo on
abbrev pub from : ℕ → ℕ → List ℕ
from zero lo = []
from (suc n) lo = lo ∷ from n (lo + 1)

pub from_has : (n lo x : ℕ) → lo ≤ x → x < lo + n → Among (from n lo) x
from_has zero lo x h l = absurd (omega arith)
from_has (suc n) lo x h l = ⊎_elim (λ m. inr (from_has n (lo + 1) x (omega arith) (omega arith))) (λ m. inl (omega arith)) (cases_lt lo x)

-- the test passes at both kinds, and at both marks
abbrev pub at_kinds : (NumberKind → Bool) → Bool
at_kinds p = p IntKind && p FloatKind

pub at_kind : (p : NumberKind → Bool) → at_kinds p ≡ true → (k : NumberKind) → p k ≡ true
at_kind p e IntKind = (and_parts _ _ e).0
at_kind p e FloatKind = (and_parts _ _ e).1

abbrev pub at_bools : (Bool → Bool) → Bool
at_bools p = p false && p true

pub at_bool : (p : Bool → Bool) → at_bools p ≡ true → (b : Bool) → p b ≡ true
at_bool p e false = (and_parts _ _ e).0
at_bool p e true = (and_parts _ _ e).1

-- what a filter keeps passes, and was there
pub among_filter : (p : ℕ → Bool) (xs : List ℕ) (x : ℕ) → Among (filter p xs) x → Among xs x × (p x ≡ true)
among_filter p [] x h = absurd h
among_filter p (y ∷ ys) x h = elim (p y) as (λ b. p y ≡ b → Among (cond b (y ∷ filter p ys) (filter p ys)) x
    → Among (y ∷ ys) x × (p x ≡ true)) [
      | true ↦ λ t h. ⊎_elim (λ e. (inl e, ap p e ∙ t)) (λ h. let r = among_filter p ys x h in (inr r.0, r.1)) h
      | false ↦ λ _ h. let r = among_filter p ys x h in (inr r.0, r.1)
    ] refl h

-- and what was there and passes is kept
pub among_kept : (p : ℕ → Bool) (xs : List ℕ) (x : ℕ) → Among xs x → p x ≡ true → Among (filter p xs) x
among_kept p [] x h t = absurd h
among_kept p (y ∷ ys) x h t = elim (p y) as (λ b. p y ≡ b → Among (cond b (y ∷ filter p ys) (filter p ys)) x) [
  | true ↦ λ _. ⊎_elim (λ e. inl e) (λ h. inr (among_kept p ys x h t)) h
  | false ↦ λ f. ⊎_elim (λ e. absurd (false≢true (sym f ∙ ap p (sym e) ∙ t))) (λ h. among_kept p ys x h t) h
] refl

-- two facts that a third is equivalent to
pub both_ways : {A B C : Type 0} → (A ↔ B) → (B ↔ C) → (A ↔ C)
both_ways f g = (λ a. g.0 (f.0 a), λ c. f.1 (g.1 c))
