use Rattle.std.proofs.Common.{◌+◌, string_bytes}
use Rattle.meta_gen.specs.Constraint.{entry_of}
use Rattle.meta_query_lines.specs.Explanation.{IsOperandTold}
use Rattle.meta_query_lines.proofs.ListedLemmas.{AreSoFar}
use Rattle.meta_query_lines.proofs.type_lists.push_operands.Given as goal

-- the words of the first operands stand there
abbrev pub invariant-loop-k : goal.invariant-loop-k
invariant-loop-k l = AreSoFar (λ k word. IsOperandTold l.tables l.opcode (entry_of l.entry) l.controls (l.from + k) word)
    (string_bytes l.fn.out) l.k (string_bytes l.out)
