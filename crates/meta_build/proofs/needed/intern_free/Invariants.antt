use Rattle.meta_build.specs.Interned.{AddsEach, IsFreeSetAt}
use Rattle.meta_build.proofs.needed.intern_free.Given as goal

-- the sets of the variables so far are added
abbrev pub invariant-loop-place : goal.invariant-loop-place
invariant-loop-place l = AddsEach (IsFreeSetAt l.vars l.controls l.variables) l.place l.fn.type_sets l.type_sets
