use Rattle.std.proofs.Common.{refl, ap, ◌∙◌, Ok, rules, arith, [], ◌∷◌, ◌++◌}
use Rattle.std.proofs.lemmas.Grind.{common_steps}
use Rattle.std.specs.Map.{lookup}
use Rattle.meta_lists.proofs.Pushed.{popped}
use Rattle.meta_unique.specs.Interning.{pointed_to}
use Rattle.meta_unique.proofs.Indexes.{pushed, found_index, found_none, found_some, indexed_push, index_push, indexed_same}
use Rattle.meta_unique.proofs.unique_table.UniqueTable.add.Goals as goal

pub returns-in-Some-clause-known : goal.returns-in-Some-clause-known
returns-in-Some-clause-known g c i h =
    (ap Ok (found_index _ _ _ _ c.self.view_is c.self.invariant c.args.entry i _ c.in-Some.ensures.value h), refl)

pub returns-in-Some-clause-added : goal.returns-in-Some-clause-added
returns-in-Some-clause-added g c new =
    absurd (new _ (found_some _ _ _ _ c.self.view_is c.self.invariant c.args.entry _ c.in-Some.ensures.value))

pub returns-in_err-push-clause-known : goal.returns-in_err-push-clause-known
returns-in_err-push-clause-known g c i h =
    absurd (found_none _ _ _ _ c.self.view_is c.self.invariant c.args.entry c.in_default.ensures.value i h)

pub returns-in-Ok-clause-known : goal.returns-in-Ok-clause-known
returns-in-Ok-clause-known g c i h = absurd (found_none _ _ _ _ c.self.view_is c.self.invariant c.args.entry c.in_default.ensures.value i h)

pub returns-in-Err-clause-known : goal.returns-in-Err-clause-known
returns-in-Err-clause-known g c i h =
    absurd (found_none _ _ _ _ c.self.view_is c.self.invariant c.args.entry c.in_default.ensures.value i h)

pub invariant_of-self-in-Ok : goal.invariant_of-self-in-Ok
invariant_of-self-in-Ok g c = indexed_push _ g.met.T.Eq.laws c.self.inside.entries.items _ c.args.entry c.in_ok-push.ensures.items _
    (c.len-index.ensures ∙ c.self.inside.entries.ok.0) _ _ c.self.invariant c.in_default.ensures.value c.in-Ok.ensures.updates.0

pub invariant_of-self-in-Err : goal.invariant_of-self-in-Err
invariant_of-self-in-Err g c =
    indexed_same _ _ _ _ _ (ap pointed_to (popped c.self.inside.entries.items _ _ c.args.entry _ c.in_ok-push.ensures.items
    c.push.new.self.ok.0 c.pop.ensures.rest)) (λ q. ap (lookup (λ k. g.T.PartialEq.eq q.now k.now)) c.in-Err.ensures.err) c.self.invariant

pub returns-in-Ok-clause-index : goal.returns-in-Ok-clause-index
returns-in-Ok-clause-index g c = index_push _ g.met.T.Eq.laws c.self.inside.entries.items _ c.args.entry c.in_ok-push.ensures.items _
    (c.len-index.ensures ∙ c.self.inside.entries.ok.0)

pub returns-in-Ok-clause-different : goal.returns-in-Ok-clause-different
returns-in-Ok-clause-different g c = (invariant_of-self-in-Ok g c).different

pub returns-in-Err-clause-index : goal.returns-in-Err-clause-index
returns-in-Err-clause-index g c = search rules

pub returns-in-Err-clause-added : goal.returns-in-Err-clause-added
returns-in-Err-clause-added g c = search rules

pub returns-in-Err-clause-different : goal.returns-in-Err-clause-different
returns-in-Err-clause-different g c = grind (arith, common_steps)

pub returns-in-Err-clause-err : goal.returns-in-Err-clause-err
returns-in-Err-clause-err g c = grind (arith, common_steps)

pub returns-in-Some-clause-index : goal.returns-in-Some-clause-index
returns-in-Some-clause-index g c = search rules

pub returns-in-Some-clause-different : goal.returns-in-Some-clause-different
returns-in-Some-clause-different g c = search rules

pub returns-in-Some-clause-err : goal.returns-in-Some-clause-err
returns-in-Some-clause-err g c = search rules

pub returns-in_err-push-clause-index : goal.returns-in_err-push-clause-index
returns-in_err-push-clause-index g c = search rules

pub returns-in_err-push-clause-added : goal.returns-in_err-push-clause-added
returns-in_err-push-clause-added g c = search rules

pub returns-in_err-push-clause-different : goal.returns-in_err-push-clause-different
returns-in_err-push-clause-different g c = search rules

pub returns-in_err-push-clause-err : goal.returns-in_err-push-clause-err
returns-in_err-push-clause-err g c = search rules

pub returns-in-Ok-clause-err : goal.returns-in-Ok-clause-err
returns-in-Ok-clause-err g c = search rules

pub returns-in-Ok-clause-added : goal.returns-in-Ok-clause-added
returns-in-Ok-clause-added g c = λ new. pushed _ _ c.args.entry c.in_ok-push.ensures.items
    ∙ ap (λ w. w ++ c.args.entry.now ∷ []) c.self.view_is
