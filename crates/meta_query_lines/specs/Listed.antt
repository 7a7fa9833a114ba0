-- What stands in a list of words beside them.
use Rattle.std.specs.Prelude.{ℕ, zero, suc, List, [], ◌∷◌}

-- the comma before the k-th word, from 0
abbrev pub comma_before : ℕ → List ℕ
comma_before zero = []
comma_before (suc k) = 44 ∷ []

-- the `-` for a list of no words
abbrev pub dash_for : ℕ → List ℕ
dash_for zero = 45 ∷ []
dash_for (suc k) = []
