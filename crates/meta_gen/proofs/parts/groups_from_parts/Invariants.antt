use Rattle.meta_gen.proofs.GroupsOfParts.{MadeOf}
use Rattle.meta_gen.proofs.parts.groups_from_parts.Given as goal

-- the tables so far are made of the parts so far
abbrev pub invariant-loop-part : goal.invariant-loop-part
invariant-loop-part l = MadeOf l.yielded l.groups.items
