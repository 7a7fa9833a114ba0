use Rattle.std.proofs.lemmas.Result.{IfOk-from_err}
use Rattle.meta_gen.proofs.parts.tables_from_parts.Goals as goal

pub returns-in_err-opcodes-clause-some : goal.returns-in_err-opcodes-clause-some
returns-in_err-opcodes-clause-some c = IfOk-from_err c.from_residual.result _ c.from_residual.ensures.0

pub returns-in_err-opcodes-clause-well_formed : goal.returns-in_err-opcodes-clause-well_formed
returns-in_err-opcodes-clause-well_formed c = IfOk-from_err c.from_residual.result _ c.from_residual.ensures.0

pub returns-in_err-opcodes-clause-none : goal.returns-in_err-opcodes-clause-none
returns-in_err-opcodes-clause-none c = IfOk-from_err c.from_residual.result _ c.from_residual.ensures.0

pub returns-in_err-groups-clause-some : goal.returns-in_err-groups-clause-some
returns-in_err-groups-clause-some c = IfOk-from_err c.from_residual-in_err-groups.result _ c.from_residual-in_err-groups.ensures.0

pub returns-in_err-groups-clause-well_formed : goal.returns-in_err-groups-clause-well_formed
returns-in_err-groups-clause-well_formed c = IfOk-from_err c.from_residual-in_err-groups.result _ c.from_residual-in_err-groups.ensures.0

pub returns-in_err-groups-clause-none : goal.returns-in_err-groups-clause-none
returns-in_err-groups-clause-none c = IfOk-from_err c.from_residual-in_err-groups.result _ c.from_residual-in_err-groups.ensures.0
