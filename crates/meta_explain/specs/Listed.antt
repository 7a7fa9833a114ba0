-- Lists that have exactly what they are to have, each once and in order.
--     AreListed Before P list      the list has exactly what P holds of, in the order of Before
use Rattle.std.specs.Prelude.{◌≡◌, ◌↔◌, ◌<◌, ℕ, List, Contains, slice_get, Some}

-- the list has exactly those of which P holds, and what stands earlier in it comes before what stands later
pub record AreListed {X : Type 0} (Before : X → X → Type 0) (P : X → Type 0) (list : List X) : Type 0 where
  pub contains : (x : X) → (Contains list x ↔ P x)
  pub order : (j k : ℕ) (x y : X) → j < k → slice_get list j ≡ Some x → slice_get list k ≡ Some y → Before x y

-- the numbers rise
abbrev pub IsLess : ℕ → ℕ → Type 0
IsLess m n = m < n

-- a list of numbers that rises
abbrev pub Rising : List ℕ → Type 0
Rising ns = (j k m n : ℕ) → j < k → slice_get ns j ≡ Some m → slice_get ns k ≡ Some n → m < n
