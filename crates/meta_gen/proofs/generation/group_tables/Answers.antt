use Rattle.std.proofs.Common.{length, refl, arith}
use Rattle.std.proofs.lemmas.Option.{slice_get_read}
use Rattle.std.proofs.lemmas.Result.{IfOk-from_err}
use Rattle.meta_gen.proofs.GroupsSoFar.{groups_next}
use Rattle.meta_gen.proofs.generation.group_tables.Goals as goal

pub of-requires : goal.of-requires
of-requires c = c.requires c.loop-k.k c.index-groups-k.result
    (slice_get_read c.args.groups.now (length c.args.groups.now) c.loop-k.k c.index-groups-k.result refl c.loop-k-test.true
    c.index-groups-k.is)

pub loop-k-preserved : goal.loop-k-preserved
loop-k-preserved c =
    let k = c.loop-k.k in
    let groups = c.args.groups.now in
    let at = slice_get_read groups (length groups) k c.index-groups-k.result refl c.loop-k-test.true c.index-groups-k.is in
    groups_next groups k c.index-groups-k.result c.in_ok-of.field-0 c.loop-k.tables.items c.push.new.self.items at
    c.in_ok-of.ensures.tables c.in_ok-of.ensures.well_formed c.in_ok-push.ensures.items c.loop-k.invariant

pub returns-clause-tables : goal.returns-clause-tables
returns-clause-tables c = c.loop-k.invariant.each

pub returns-clause-count : goal.returns-clause-count
returns-clause-count c =
    let count = c.loop-k.invariant.count in
    let past = c.loop-k-test.false in
    let most = c.loop-k.auto.k-end in
    omega arith

pub returns-clause-well_formed : goal.returns-clause-well_formed
returns-clause-well_formed c = c.loop-k.invariant.well_formed

pub returns-in_err-tables-clause-count : goal.returns-in_err-tables-clause-count
returns-in_err-tables-clause-count c = IfOk-from_err c.from_residual.result _ c.from_residual.ensures.0

pub returns-in_err-tables-clause-tables : goal.returns-in_err-tables-clause-tables
returns-in_err-tables-clause-tables c = IfOk-from_err c.from_residual.result _ c.from_residual.ensures.0

pub returns-in_err-tables-clause-well_formed : goal.returns-in_err-tables-clause-well_formed
returns-in_err-tables-clause-well_formed c = IfOk-from_err c.from_residual.result _ c.from_residual.ensures.0

pub returns-in_err-of-clause-count : goal.returns-in_err-of-clause-count
returns-in_err-of-clause-count c = IfOk-from_err c.from_residual-in_err-of.result _ c.from_residual-in_err-of.ensures.0

pub returns-in_err-of-clause-tables : goal.returns-in_err-of-clause-tables
returns-in_err-of-clause-tables c = IfOk-from_err c.from_residual-in_err-of.result _ c.from_residual-in_err-of.ensures.0

pub returns-in_err-of-clause-well_formed : goal.returns-in_err-of-clause-well_formed
returns-in_err-of-clause-well_formed c = IfOk-from_err c.from_residual-in_err-of.result _ c.from_residual-in_err-of.ensures.0

pub returns-in_err-push-clause-count : goal.returns-in_err-push-clause-count
returns-in_err-push-clause-count c = IfOk-from_err c.from_residual-in_err-push.result _ c.from_residual-in_err-push.ensures.0

pub returns-in_err-push-clause-tables : goal.returns-in_err-push-clause-tables
returns-in_err-push-clause-tables c = IfOk-from_err c.from_residual-in_err-push.result _ c.from_residual-in_err-push.ensures.0

pub returns-in_err-push-clause-well_formed : goal.returns-in_err-push-clause-well_formed
returns-in_err-push-clause-well_formed c = IfOk-from_err c.from_residual-in_err-push.result _ c.from_residual-in_err-push.ensures.0
