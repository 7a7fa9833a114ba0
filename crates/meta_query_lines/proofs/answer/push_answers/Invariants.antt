use Rattle.std.proofs.Common.{◌≡◌, ℕ, List, ◌++◌, string_bytes}
use Rattle.meta_lines.specs.Lines.{lines_of}
use Rattle.meta_query_lines.specs.Answer.{IsTableReply, AreWrittenAnswers}
use Rattle.meta_query_lines.proofs.answer.push_answers.Given as goal

-- whatever answers the lines that are left completes what was written
abbrev pub invariant-loop-line : goal.invariant-loop-line
invariant-loop-line l = (rest : List ℕ) → AreWrittenAnswers (IsTableReply l.tables) l.line-iterator rest → (all : List ℕ)
    × AreWrittenAnswers (IsTableReply l.tables) (lines_of l.fn.input) all × (string_bytes l.out ++ rest ≡ string_bytes l.fn.out ++ all)
