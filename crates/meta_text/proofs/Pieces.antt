-- Texts that are added one after the other, and what is left to add.
use Rattle.std.proofs.Common.{◌≡◌, ℕ, List, [], ◌++◌, append_assoc, append-nil, sym, ap, ◌∙◌}

-- a piece of what is left is added
pub moved : (out piece rest new left whole : List ℕ) → new ≡ out ++ piece → left ≡ piece ++ rest → out ++ left ≡ whole
    → new ++ rest ≡ whole
moved out piece rest new left whole added parts so_far =
    ap (λ o. o ++ rest) added ∙ append_assoc out piece rest ∙ ap (λ t. out ++ t) (sym parts) ∙ so_far

-- nothing is left
pub ended : (out left whole : List ℕ) → left ≡ [] → out ++ left ≡ whole → out ≡ whole
ended out left whole none so_far = sym (append-nil out) ∙ ap (λ t. out ++ t) (sym none) ∙ so_far
