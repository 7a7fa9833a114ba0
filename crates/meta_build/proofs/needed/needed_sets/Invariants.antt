use Rattle.meta_build.proofs.Interning.{IsInterned}
use Rattle.meta_build.proofs.needed.needed_sets.Given as goal

-- the sets that the instructions so far need are there, in order of first need
abbrev pub invariant-loop-place : goal.invariant-loop-place
invariant-loop-place l = IsInterned l.set l.place 0 l.type_sets
