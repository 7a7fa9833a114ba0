use Rattle.std.proofs.Common.{◌<◌, ◌+◌, ℕ}
use Rattle.meta_gen.specs.Constraint.{entry_of}
use Rattle.meta_explain.specs.Serving.{IsMetAt}
use Rattle.meta_explain.proofs.accepted.are_met.Given as goal

-- what the operands so far ask for can be met
abbrev pub invariant-loop-k : goal.invariant-loop-k
invariant-loop-k l = (k : ℕ) → k < l.k → IsMetAt l.tables (entry_of l.entry) (l.entry.constraint_offset + k)
