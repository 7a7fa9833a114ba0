use Rattle.std.proofs.Common.{ℕ, ◌<◌}
use Rattle.meta_query.specs.Recheck.{IsMarkAt}
use Rattle.meta_query.proofs.queries.mark_in.Given as goal

-- the mark stands at no place before
abbrev pub invariant-loop-at : goal.invariant-loop-at
invariant-loop-at l = (k : ℕ) → k < l.at → IsMarkAt l.fn.input k → ⊥
