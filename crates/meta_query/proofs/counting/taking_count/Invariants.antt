use Rattle.meta_query.specs.Summary.{CountsTo, TakesEverywhere}
use Rattle.meta_query.proofs.counting.taking_count.Given as goal

-- how many of the opcodes so far
abbrev pub invariant-loop-place : goal.invariant-loop-place
invariant-loop-place l = CountsTo (TakesEverywhere l.tables.opcodes l.number) l.place l.count
