-- Elements of a list that is written out.
use Rattle.std.proofs.Common.{◌≡◌, ℕ, ◌⊎◌, inl, inr, List, [], ◌∷◌, sym, arith, zero, suc, Contains}

-- x is one of the list, by cases
abbrev pub Among : List ℕ → ℕ → Type 0
Among [] x = ⊥
Among (y ∷ ys) x = (x ≡ y) ⊎ Among ys x

pub among : (xs : List ℕ) (x : ℕ) → Contains xs x → Among xs x
among [] x (k, l, e) = absurd (omega arith)
among (y ∷ ys) x (zero, l, e) = inl (sym e)
among (y ∷ ys) x (suc k, l, e) = inr (among ys x (k, omega arith, e))

pub contains : (xs : List ℕ) (x : ℕ) → Among xs x → Contains xs x
contains [] x h = absurd h
contains (y ∷ ys) x (inl e) = (0, omega arith, sym e)
contains (y ∷ ys) x (inr h) = let r = contains ys x h in (suc r.0, omega (arith, r.1), r.2)
