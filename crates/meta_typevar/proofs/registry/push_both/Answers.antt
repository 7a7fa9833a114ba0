use Rattle.meta_lists.proofs.Pushed.{popped}
use Rattle.meta_typevar.proofs.registry.push_both.Goals as goal
use Rattle.meta_typevar.proofs.registry.push_both.Goals.{in-Ok, in-Err}

pub returns-clause-children_stay : goal.returns-clause-children_stay
returns-clause-children_stay c = elim c.match-push.branch [
  | in-Ok w ↦ rw w.result-is tt
  | in-Err w ↦ rw (w.result-is, w.children-is)
      (popped c.args.children.now.items _ _ _ _ c.in_ok-push.ensures.items c.push.new.self.ok.0 w.pop.ensures.rest)
]
