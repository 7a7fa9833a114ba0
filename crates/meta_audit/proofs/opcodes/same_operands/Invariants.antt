use Rattle.std.proofs.Common.{◌≡◌, ◌+◌, ◌<◌, ℕ}
use Rattle.meta_audit.specs.Comparison.{SamePlace}
use Rattle.meta_audit.proofs.opcodes.same_operands.Given as goal

-- so far the same numbers pass at each operand
abbrev pub invariant-loop-k : goal.invariant-loop-k
invariant-loop-k l = (j : ℕ) → j < l.k
    → SamePlace l.own l.other l.entry.typeset_offset l.entry.second_offset (l.entry.constraint_offset + j)
    (l.fn.other_entry.constraint_offset + j)
