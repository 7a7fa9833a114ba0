-- Meanings of lists.
--     each_from f k xs          what f makes of each, with its place, of which the first is k, or the first reason
use Rattle.std.specs.Prelude.{◌+◌, ℕ, List, [], ◌∷◌, Result, Ok}
use Rattle.meta_file_types.specs.Telling.{◌>>=◌}

-- what f makes of each, with its place
abbrev pub each_from : {A B R : Type 0} → (ℕ → A → Result B R) → ℕ → List A → Result (List B) R
each_from f k [] = Ok []
each_from f k (x ∷ xs) = f k x >>= λ y. each_from f (k + 1) xs >>= λ ys. Ok (y ∷ ys)
