-- When texts are the same, and what they feed to a hasher.
use Rattle.std.specs.Hash as fed
use Rattle.std.specs.Prelude.{ℕ, ◌==◌, ◌&&◌, Bool, List, ◌++◌}
use Rattle.std.specs.Cmp.Lexicographic.{pointwise}

-- whether two texts are the same
abbrev pub same_text : List ℕ → List ℕ → Bool
same_text = pointwise ◌==◌

-- whether two pairs of texts are the same
abbrev pub same_pair : List ℕ × List ℕ → List ℕ × List ℕ → Bool
same_pair a b = same_text a.0 b.0 && same_text a.1 b.1

-- whether two lists of pairs of texts are the same
abbrev pub same_pairs : List (List ℕ × List ℕ) → List (List ℕ × List ℕ) → Bool
same_pairs = pointwise same_pair

-- what a list of pairs of texts feeds to a hasher: its length, and each pair
abbrev pub pairs_writes : List (List ℕ × List ℕ) → fed.HashWrites
pairs_writes = fed.slice (λ p. fed.str p.0 ++ fed.str p.1)
