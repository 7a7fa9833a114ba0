-- The first number of which something holds.
use Rattle.std.proofs.Common.{◌≡◌, ℕ, ◌<◌, ⊎_elim}
use Rattle.std.proofs.lemmas.Bool.{cases_order}
use Rattle.meta_lists.specs.First.{IsFirst}

-- at most one number is the first
pub one_first : (P : ℕ → Type 0) (n m : ℕ) → IsFirst P n → IsFirst P m → n ≡ m
one_first P n m h g = ⊎_elim
    (λ e. e)
    (⊎_elim (λ (l : n < m). absurd (g.none_before n l h.holds)) (λ (l : m < n). absurd (h.none_before m l g.holds)))
    (cases_order n m)
