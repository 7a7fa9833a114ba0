use Rattle.std.proofs.Common.{◌≡◌, ◌++◌, length}
use Rattle.meta_file_reader.specs.Parts.{docs_at}
use Rattle.meta_file_reader.proofs.parts.docs_of.Given as goal

-- the lines so far, and those that still stand in front, are all
abbrev pub invariant-loop-line : goal.invariant-loop-line
invariant-loop-line l = record {
  lines : l.lines.items ++ (docs_at l.rest).0 ≡ (docs_at l.tokens).0;
  rest : (docs_at l.rest).1 ≡ (docs_at l.tokens).1;
}

abbrev pub decreases-loop-line : goal.decreases-loop-line
decreases-loop-line l = length l.rest
