use Rattle.std.proofs.Common.{◌≡◌, string_bytes}
use Rattle.meta_lines.specs.Lines.{lines_of}
use Rattle.meta_flags.specs.Held.{served_by, state_of}
use Rattle.meta_flags.proofs.AnswerLemmas.{Continues}
use Rattle.meta_flags.proofs.answering.answers.Given as goal

-- the same is served, and what answers the lines that are left completes what was written
abbrev pub invariant-loop-line : goal.invariant-loop-line
invariant-loop-line l = (served_by l.flags ≡ served_by l.fn.flags)
    × Continues (served_by l.fn.flags) (state_of l.fn.flags) (lines_of l.fn.input) (state_of l.flags) l.line-iterator (string_bytes l.out)
