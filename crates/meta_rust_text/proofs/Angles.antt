-- Texts in angle brackets.
use Rattle.std.proofs.Common.{◌≡◌, ℕ, ◌==◌, false, List, [], ◌∷◌, ◌++◌, length, map, sym, ap, codes}
use Rattle.std.specs.List.{join_by}
use Rattle.std.proofs.lemmas.List.Folds.{flat_map-map}
use Rattle.meta_rust_text.specs.MethodArguments.{in_angles}

-- texts that are joined, if there is at least one
pub joined_in_angles : {X : Type 0} (v : X → List ℕ) (xs : List X) → (length xs == 0) ≡ false
    → codes "<" ++ (join_by v (codes ", ") xs ++ codes ">") ≡ in_angles (map v xs)
joined_in_angles v [] h = absurd (cc)
joined_in_angles v (x ∷ xs) h = ap (λ t. codes "<" ++ ((v x ++ t) ++ codes ">")) (sym (flat_map-map (λ t. codes ", " ++ t) v xs))
