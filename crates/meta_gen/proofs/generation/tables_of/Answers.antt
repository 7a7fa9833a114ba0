use Rattle.std.proofs.Common.{◌∙◌}
use Rattle.std.proofs.lemmas.Result.{IfOk-from_err}
use Rattle.meta_gen.proofs.GroupsSoFar.{groups_done, layouts}
use Rattle.meta_gen.proofs.generation.tables_of.Goals as goal

pub group_tables-requires : goal.group_tables-requires
group_tables-requires c =
    layouts c.args.built.now.declared.groups c.groups.result.now c.declarations-declarations.ensures.valid.groups (c.groups.ensures.groups
    ∙ c.groups.ensures.built) c.built_groups_have_tables.ensures.layout

pub returns-clause-tables : goal.returns-clause-tables
returns-clause-tables c =
    let d = c.args.built.now.declared in
    let groups = groups_done d.groups c.groups.result.now c.in_ok-groups.groups.items c.declarations-declarations.ensures.valid.groups
    (c.groups.ensures.groups ∙ c.groups.ensures.built) c.in_ok-groups.ensures.count c.in_ok-groups.ensures.tables in
    rw c.new.ensures (record { opcodes = c.in_ok-opcodes.ensures.tables; groups = groups })

pub returns-in_err-opcodes-clause-tables : goal.returns-in_err-opcodes-clause-tables
returns-in_err-opcodes-clause-tables c = IfOk-from_err c.from_residual.result _ c.from_residual.ensures.0

pub returns-in_err-opcodes-clause-well_formed : goal.returns-in_err-opcodes-clause-well_formed
returns-in_err-opcodes-clause-well_formed c = IfOk-from_err c.from_residual.result _ c.from_residual.ensures.0

pub returns-in_err-opcodes-clause-acceptance : goal.returns-in_err-opcodes-clause-acceptance
returns-in_err-opcodes-clause-acceptance c = IfOk-from_err c.from_residual.result _ c.from_residual.ensures.0

pub returns-in_err-opcodes-clause-inference : goal.returns-in_err-opcodes-clause-inference
returns-in_err-opcodes-clause-inference c = IfOk-from_err c.from_residual.result _ c.from_residual.ensures.0

pub returns-in_err-groups-clause-tables : goal.returns-in_err-groups-clause-tables
returns-in_err-groups-clause-tables c = IfOk-from_err c.from_residual-in_err-groups.result _ c.from_residual-in_err-groups.ensures.0

pub returns-in_err-groups-clause-well_formed : goal.returns-in_err-groups-clause-well_formed
returns-in_err-groups-clause-well_formed c = IfOk-from_err c.from_residual-in_err-groups.result _ c.from_residual-in_err-groups.ensures.0

pub returns-in_err-groups-clause-acceptance : goal.returns-in_err-groups-clause-acceptance
returns-in_err-groups-clause-acceptance c = IfOk-from_err c.from_residual-in_err-groups.result _ c.from_residual-in_err-groups.ensures.0

pub returns-in_err-groups-clause-inference : goal.returns-in_err-groups-clause-inference
returns-in_err-groups-clause-inference c = IfOk-from_err c.from_residual-in_err-groups.result _ c.from_residual-in_err-groups.ensures.0
