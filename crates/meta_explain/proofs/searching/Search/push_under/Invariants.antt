use Rattle.meta_explain.specs.Search.{IsFoundIn, Adds}
use Rattle.meta_explain.proofs.Adding.{SecondBefore}
use Rattle.meta_explain.proofs.searching.Search.push_under.Given as goal

-- what is found with the second controls so far is added
abbrev pub invariant-loop-place : goal.invariant-loop-place
invariant-loop-place l = Adds (SecondBefore (IsFoundIn l.self) l.ctrl l.place) l.fn.found.items l.found.items
