use Rattle.std.proofs.Common.{◌≡◌, ℕ, List, ◌∷◌, ◌++◌, take, string_bytes}
use Rattle.meta_query_lines.specs.Inference.{AreResultWords, results_text}
use Rattle.meta_query_lines.proofs.results.push_results.Given as goal

-- the words so far are those of the first numbers, and their line was added
abbrev pub invariant-loop-k : goal.invariant-loop-k
invariant-loop-k l = (first : List ℕ) × (others : List (List ℕ)) × AreResultWords (take l.k l.numbers) (first ∷ others)
    × (string_bytes l.out ≡ string_bytes l.fn.out ++ results_text (first ∷ others))
