use Rattle.meta_gen.proofs.GroupsSoFar.{GroupsTo}
use Rattle.meta_gen.proofs.generation.group_tables.Given as goal

-- the groups so far have their tables
abbrev pub invariant-loop-k : goal.invariant-loop-k
invariant-loop-k l = GroupsTo l.groups l.k l.tables.items
