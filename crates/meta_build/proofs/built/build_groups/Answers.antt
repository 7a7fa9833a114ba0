use Rattle.std.proofs.Common.{length, refl}
use Rattle.std.proofs.lemmas.Option.{slice_get_read}
use Rattle.std.proofs.lemmas.Result.{IfOk-from_err}
use Rattle.meta_build.specs.AllDeclared.{IsFirstOfGroups}
use Rattle.meta_build.proofs.Refusals.{handed_on}
use Rattle.meta_build.proofs.GroupsSoFar.{first_here, groups_next, all_valid, all_built}
use Rattle.meta_build.proofs.built.build_groups.Goals as goal

pub loop-number-preserved : goal.loop-number-preserved
loop-number-preserved c =
    let k = c.loop-number.number in
    let groups = c.args.groups.now in
    let at = slice_get_read groups (length groups) k c.index-groups-number.result refl c.loop-number-test.true c.index-groups-number.is in
    groups_next groups k c.index-groups-number.result c.in_ok-build.field-0 c.loop-number.built.items c.push.new.self.items at
    c.in_ok-build.ensures.valid c.in_ok-build.ensures.built c.in_ok-push.ensures.items c.loop-number.invariant

pub returns-clause-valid : goal.returns-clause-valid
returns-clause-valid c =
    all_valid c.args.groups.now c.loop-number.number c.loop-number.built.items c.loop-number-test.false c.loop-number.invariant

pub returns-clause-built : goal.returns-clause-built
returns-clause-built c =
    all_built c.args.groups.now c.loop-number.number c.loop-number.built.items c.loop-number-test.false c.loop-number.invariant

pub returns-in_err-build-clause-refused : goal.returns-in_err-build-clause-refused
returns-in_err-build-clause-refused c =
    let groups = c.args.groups.now in
    let k = c.loop-number.number in
    let at = slice_get_read groups (length groups) k c.index-groups-number.result refl c.loop-number-test.true c.index-groups-number.is in
    handed_on _ c.from_residual-in_err-build.result (IsFirstOfGroups groups) c.from_residual-in_err-build.ensures.1
    (λ other. first_here groups k _ _ _ at (c.in_err-build.ensures.refused other) c.loop-number.invariant)

pub returns-in_err-built-clause-valid : goal.returns-in_err-built-clause-valid
returns-in_err-built-clause-valid c = IfOk-from_err c.from_residual.result _ c.from_residual.ensures.0

pub returns-in_err-built-clause-built : goal.returns-in_err-built-clause-built
returns-in_err-built-clause-built c = IfOk-from_err c.from_residual.result _ c.from_residual.ensures.0

pub returns-in_err-build-clause-valid : goal.returns-in_err-build-clause-valid
returns-in_err-build-clause-valid c = IfOk-from_err c.from_residual-in_err-build.result _ c.from_residual-in_err-build.ensures.0

pub returns-in_err-build-clause-built : goal.returns-in_err-build-clause-built
returns-in_err-build-clause-built c = IfOk-from_err c.from_residual-in_err-build.result _ c.from_residual-in_err-build.ensures.0

pub returns-in_err-push-clause-valid : goal.returns-in_err-push-clause-valid
returns-in_err-push-clause-valid c = IfOk-from_err c.from_residual-in_err-push.result _ c.from_residual-in_err-push.ensures.0

pub returns-in_err-push-clause-built : goal.returns-in_err-push-clause-built
returns-in_err-push-clause-built c = IfOk-from_err c.from_residual-in_err-push.result _ c.from_residual-in_err-push.ensures.0
