-- The first number of which something holds, as the first place of a list where a name stands.
use Rattle.std.specs.Prelude.{◌<◌, ℕ}

-- P holds of n, and of no number before it
pub record IsFirst (P : ℕ → Type 0) (n : ℕ) : Type 0 where
  pub holds : P n
  pub none_before : (k : ℕ) → k < n → P k → ⊥
