use Rattle.std.proofs.Common.{string_bytes}
use Rattle.meta_query_lines.specs.Explanation.{found_text}
use Rattle.meta_query_lines.proofs.ListedLemmas.{AreFirst}
use Rattle.meta_query_lines.proofs.finding.push_found.Given as goal

-- the texts of the first that were found stand there
abbrev pub invariant-loop-k : goal.invariant-loop-k
invariant-loop-k l = AreFirst (found_text l.tables) l.found (string_bytes l.fn.out) l.k (string_bytes l.out)
