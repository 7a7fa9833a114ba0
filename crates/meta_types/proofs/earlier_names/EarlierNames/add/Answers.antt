use Rattle.std.proofs.Common.{refl, sym, ap, map, ◌∙◌, subst, rules}
use Rattle.meta_lists.proofs.Pushed.{popped}
use Rattle.meta_types.specs.SharedNames.{Keeps}
use Rattle.meta_types.proofs.KeptNames.{added_view, added_reference, unshared_name, shared_name}
use Rattle.meta_types.proofs.earlier_names.EarlierNames.add.Goals as goal
use Rattle.meta_types.proofs.earlier_names.EarlierNames.add.Goals.{in-Ok, in-Err}

pub returns-in-Some-clause-shared : goal.returns-in-Some-clause-shared
returns-in-Some-clause-shared c =
    shared_name c.self.inside.places _ _ _ _ c.args.self.now (sym c.in-Some.ensures.value) c.in_ok-camel.ensures
    (subst (Keeps c.self.inside.places) c.self.view_is c.self.invariant) refl

pub invariant_of-self-in-Ok : goal.invariant_of-self-in-Ok
invariant_of-self-in-Ok c =
    added_reference c.self.inside.places c.insert.new.self _ _ c.self.inside.names.items _ c.args.name c.in_ok-push.ensures.items
    (c.len-place.ensures ∙ c.self.inside.names.ok.0)
    c.in-Ok.ensures.updates (sym c.in_default.ensures.value) c.in_ok-camel.ensures c.self.invariant

pub returns-clause-unshared : goal.returns-clause-unshared
returns-clause-unshared c = elim c.match-insert.branch [
  | in-Ok w ↦ rw w.result-is (unshared_name c.self.inside.places _ _ _ c.args.self.now
      (sym c.in_default.ensures.value) c.in_ok-camel.ensures (subst (Keeps c.self.inside.places) c.self.view_is c.self.invariant) refl)
  | in-Err w ↦ rw w.result-is tt
]

pub returns-in_err-camel-clause-added : goal.returns-in_err-camel-clause-added
returns-in_err-camel-clause-added c = search rules

pub returns-in_err-camel-clause-unshared : goal.returns-in_err-camel-clause-unshared
returns-in_err-camel-clause-unshared c = search rules

pub returns-in_err-camel-clause-shared : goal.returns-in_err-camel-clause-shared
returns-in_err-camel-clause-shared c = search rules

pub returns-in_err-camel-clause-kept : goal.returns-in_err-camel-clause-kept
returns-in_err-camel-clause-kept c = search rules

pub returns-in_err-camel-clause-unchanged : goal.returns-in_err-camel-clause-unchanged
returns-in_err-camel-clause-unchanged c = search rules

pub returns-in-Some-clause-added : goal.returns-in-Some-clause-added
returns-in-Some-clause-added c = search rules

pub returns-in-Some-clause-unshared : goal.returns-in-Some-clause-unshared
returns-in-Some-clause-unshared c = search rules

pub returns-in-Some-clause-kept : goal.returns-in-Some-clause-kept
returns-in-Some-clause-kept c = search rules

pub returns-in-Some-clause-unchanged : goal.returns-in-Some-clause-unchanged
returns-in-Some-clause-unchanged c = search rules

pub returns-in_err-push-clause-added : goal.returns-in_err-push-clause-added
returns-in_err-push-clause-added c = search rules

pub returns-in_err-push-clause-unshared : goal.returns-in_err-push-clause-unshared
returns-in_err-push-clause-unshared c = search rules

pub returns-in_err-push-clause-shared : goal.returns-in_err-push-clause-shared
returns-in_err-push-clause-shared c = search rules

pub returns-in_err-push-clause-kept : goal.returns-in_err-push-clause-kept
returns-in_err-push-clause-kept c = search rules

pub returns-in_err-push-clause-unchanged : goal.returns-in_err-push-clause-unchanged
returns-in_err-push-clause-unchanged c = search rules

pub returns-clause-shared : goal.returns-clause-shared
returns-clause-shared c = search rules

pub returns-clause-kept : goal.returns-clause-kept
returns-clause-kept c = search rules

pub invariant_of-self : goal.invariant_of-self
invariant_of-self c = rw c.in_err-push.ensures.items c.self.invariant

pub returns-clause-added : goal.returns-clause-added
returns-clause-added c = elim c.match-insert.branch [
  | in-Ok w ↦ rw w.result-is (w.self-is ∙ added_view _ _ _ c.args.name c.in_ok-push.ensures.items c.self.view_is)
  | in-Err w ↦ rw w.result-is tt
]

pub invariant_of-self-in-Err : goal.invariant_of-self-in-Err
invariant_of-self-in-Err c = rw (
  c.in-Err.ensures.err,
  popped c.self.inside.names.items c.push.new.self.items c.pop.new.self.items c.args.name c.push.new.self.len c.in_ok-push.ensures.items
      c.push.new.self.ok.0 c.pop.ensures.rest,
) c.self.invariant

pub returns-clause-unchanged : goal.returns-clause-unchanged
returns-clause-unchanged c = elim c.match-insert.branch [
  | in-Ok w ↦ rw w.result-is tt
  | in-Err w ↦ rw w.result-is (w.self-is
      ∙ ap (map (λ q. q.now)) (popped c.self.inside.names.items _ _ c.args.name _ c.in_ok-push.ensures.items c.push.new.self.ok.0
      w.pop.ensures.rest) ∙ c.self.view_is)
]
