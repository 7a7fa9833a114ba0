use Rattle.std.proofs.Common.{string_bytes}
use Rattle.meta_lines.specs.Lines.{lines_of}
use Rattle.meta_query_lines.specs.Explanation.{IsExplanation}
use Rattle.meta_query_lines.proofs.TextLemmas.{AreLeft}
use Rattle.meta_query_lines.specs.Told.{told_by}
use Rattle.meta_query_lines.proofs.explanation.push_explained.Given as goal

-- whatever answers the lines that are left completes what was written
abbrev pub invariant-loop-line : goal.invariant-loop-line
invariant-loop-line l = AreLeft (IsExplanation l.tables (told_by l.instructions))
    (lines_of l.fn.input) (string_bytes l.fn.out) l.line-iterator (string_bytes l.out)
