use Rattle.meta_query.specs.Summary.{CountsTo, IsFoundByName}
use Rattle.meta_query.proofs.counting.found_count.Given as goal

-- how many of the opcodes so far
abbrev pub invariant-loop-place : goal.invariant-loop-place
invariant-loop-place l = CountsTo (IsFoundByName l.tables.opcodes) l.place l.count
