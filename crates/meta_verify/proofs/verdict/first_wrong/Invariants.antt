use Rattle.std.proofs.Common.{◌≡◌, drop}
use Rattle.meta_lines.specs.Lines.{lines_of}
use Rattle.meta_verify.specs.Defined.{definitions}
use Rattle.meta_verify.proofs.VerdictLemmas.{AreRightSoFar}
use Rattle.meta_verify.proofs.verdict.first_wrong.Given as goal

-- the lines so far are right and lead to what is defined, and the others are left
abbrev pub invariant-loop-line : goal.invariant-loop-line
invariant-loop-line l = record {
  left : drop l.number (lines_of l.fn.input) ≡ l.line-iterator;
  right : AreRightSoFar l.tables.opcodes (lines_of l.fn.input) l.number (definitions l.checker);
}
