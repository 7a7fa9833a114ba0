-- What tests say.
use Rattle.std.proofs.Common.{◌≡◌, ◌<◌, ℕ, Bool, true, List, [], ◌∷◌, length, get_or, zero, suc, arith}
use Rattle.std.specs.List.{list_all}
use Rattle.std.proofs.lemmas.Bool.{and_parts}

-- each element passes what all pass
pub passes_at : {X : Type 0} (p : X → Bool) (xs : List X) (k : ℕ) (d : X) → list_all p xs ≡ true → k < length xs → p (get_or xs k d) ≡ true
passes_at p [] k d e within = absurd (omega arith)
passes_at p (x ∷ xs) zero d e within = (and_parts (p x) (list_all p xs) e).0
passes_at p (x ∷ xs) (suc k) d e within = passes_at p xs k d (and_parts (p x) (list_all p xs) e).1 (omega arith)
