use Rattle.std.proofs.lemmas.Result.{IfOk-from_err}
use Rattle.meta_gen.proofs.opcode_parts.opcodes_from_parts.Goals as goal

pub returns-in_err-are_well_formed-clause-some : goal.returns-in_err-are_well_formed-clause-some
returns-in_err-are_well_formed-clause-some c = IfOk-from_err c.from_residual.result _ c.from_residual.ensures.0

pub returns-in_err-are_well_formed-clause-well_formed : goal.returns-in_err-are_well_formed-clause-well_formed
returns-in_err-are_well_formed-clause-well_formed c = IfOk-from_err c.from_residual.result _ c.from_residual.ensures.0

pub returns-in_err-are_well_formed-clause-none : goal.returns-in_err-are_well_formed-clause-none
returns-in_err-are_well_formed-clause-none c = IfOk-from_err c.from_residual.result _ c.from_residual.ensures.0

pub returns-in_err-tables-clause-some : goal.returns-in_err-tables-clause-some
returns-in_err-tables-clause-some c = IfOk-from_err c.from_residual-in_err-tables.result _ c.from_residual-in_err-tables.ensures.0

pub returns-in_err-tables-clause-well_formed : goal.returns-in_err-tables-clause-well_formed
returns-in_err-tables-clause-well_formed c = IfOk-from_err c.from_residual-in_err-tables.result _ c.from_residual-in_err-tables.ensures.0

pub returns-in_err-tables-clause-none : goal.returns-in_err-tables-clause-none
returns-in_err-tables-clause-none c = IfOk-from_err c.from_residual-in_err-tables.result _ c.from_residual-in_err-tables.ensures.0
