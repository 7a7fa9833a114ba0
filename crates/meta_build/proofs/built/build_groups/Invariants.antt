use Rattle.meta_build.proofs.GroupsSoFar.{AreBuiltTo}
use Rattle.meta_build.proofs.built.build_groups.Given as goal

-- the groups so far are valid, and are built
abbrev pub invariant-loop-number : goal.invariant-loop-number
invariant-loop-number l = AreBuiltTo l.groups l.number l.built.items
