use Rattle.std.proofs.Common.{length, ◌∙◌}
use Rattle.std.proofs.lemmas.Iterator.Adapters.{YieldsList-from_vec}
use Rattle.std.proofs.lemmas.Iterator.Consumers.{YieldsList-turn}
use Rattle.std.proofs.lemmas.Result.{IfOk-from_err}
use Rattle.meta_setting_tables.specs.declared.parts.GroupParts.{GroupParts}
use Rattle.meta_gen.proofs.GroupsOfParts.{one_made, refused}
use Rattle.meta_gen.proofs.parts.groups_from_parts.Goals as goal

pub loop-part-preserved : goal.loop-part-preserved
loop-part-preserved c =
    one_made c.loop-part.yielded c.in-Some.part c.loop-part.groups.items c.push.new.self.items c.in-Some-2.group
    c.in_ok-push-in-Some-2.ensures.items
    (rw c.in-Some-2.is at c.in_ok-group.ensures.some) (rw c.in-Some-2.is at c.in_ok-group.ensures.well_formed) c.loop-part.invariant

pub returns-in-None-2-clause-none : goal.returns-in-None-2-clause-none
returns-in-None-2-clause-none c =
    let gives = c.into_iter-part-iterator.ensures.into_iter_gives in
    refused c.args.parts.items (length {A = GroupParts} c.loop-part.yielded) c.in-Some.part
    (YieldsList-turn (YieldsList-from_vec c.args.parts.items gives.0 (gives.1 ∙ c.args.parts.ok.0)) _ _
    c.loop-part.yielded_by _ c.next.new.self _ c.in-Some.is c.next.ensures.steps)
    (rw c.in-None-2.is at c.in_ok-group.ensures.none)

pub returns-in_err-groups-clause-some : goal.returns-in_err-groups-clause-some
returns-in_err-groups-clause-some c = IfOk-from_err c.from_residual.result _ c.from_residual.ensures.0

pub returns-in_err-groups-clause-well_formed : goal.returns-in_err-groups-clause-well_formed
returns-in_err-groups-clause-well_formed c = IfOk-from_err c.from_residual.result _ c.from_residual.ensures.0

pub returns-in_err-groups-clause-none : goal.returns-in_err-groups-clause-none
returns-in_err-groups-clause-none c = IfOk-from_err c.from_residual.result _ c.from_residual.ensures.0

pub returns-in_err-group-clause-some : goal.returns-in_err-group-clause-some
returns-in_err-group-clause-some c = IfOk-from_err c.from_residual-in_err-group.result _ c.from_residual-in_err-group.ensures.0

pub returns-in_err-group-clause-well_formed : goal.returns-in_err-group-clause-well_formed
returns-in_err-group-clause-well_formed c = IfOk-from_err c.from_residual-in_err-group.result _ c.from_residual-in_err-group.ensures.0

pub returns-in_err-group-clause-none : goal.returns-in_err-group-clause-none
returns-in_err-group-clause-none c = IfOk-from_err c.from_residual-in_err-group.result _ c.from_residual-in_err-group.ensures.0

pub returns-in_err-push-in-Some-2-clause-some : goal.returns-in_err-push-in-Some-2-clause-some
returns-in_err-push-in-Some-2-clause-some c =
    IfOk-from_err c.from_residual-in_err-push-in-Some-2.result _ c.from_residual-in_err-push-in-Some-2.ensures.0

pub returns-in_err-push-in-Some-2-clause-well_formed : goal.returns-in_err-push-in-Some-2-clause-well_formed
returns-in_err-push-in-Some-2-clause-well_formed c =
    IfOk-from_err c.from_residual-in_err-push-in-Some-2.result _ c.from_residual-in_err-push-in-Some-2.ensures.0

pub returns-in_err-push-in-Some-2-clause-none : goal.returns-in_err-push-in-Some-2-clause-none
returns-in_err-push-in-Some-2-clause-none c =
    IfOk-from_err c.from_residual-in_err-push-in-Some-2.result _ c.from_residual-in_err-push-in-Some-2.ensures.0
