use Rattle.meta_explain.specs.Search.{IsFoundIn, Adds}
use Rattle.meta_explain.proofs.Adding.{FirstBefore}
use Rattle.meta_explain.proofs.searching.Search.push_all.Given as goal

-- what is found with the controls so far is added
abbrev pub invariant-loop-place : goal.invariant-loop-place
invariant-loop-place l = Adds (FirstBefore (IsFoundIn l.self) l.place) l.fn.found.items l.found.items
