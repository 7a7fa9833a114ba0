use Rattle.std.proofs.Common.{rules}
use Rattle.std.proofs.lemmas.Result.{IfOk-from_err}
use Rattle.meta_gen.proofs.generation.generate.Goals as goal

pub returns-in_err-built-clause-valid : goal.returns-in_err-built-clause-valid
returns-in_err-built-clause-valid c = IfOk-from_err c.from_residual.result _ c.from_residual.ensures.0

pub returns-in_err-built-clause-tables : goal.returns-in_err-built-clause-tables
returns-in_err-built-clause-tables c = IfOk-from_err c.from_residual.result _ c.from_residual.ensures.0

pub returns-in_err-built-clause-well_formed : goal.returns-in_err-built-clause-well_formed
returns-in_err-built-clause-well_formed c = IfOk-from_err c.from_residual.result _ c.from_residual.ensures.0

pub returns-in_err-built-clause-acceptance : goal.returns-in_err-built-clause-acceptance
returns-in_err-built-clause-acceptance c = IfOk-from_err c.from_residual.result _ c.from_residual.ensures.0

pub returns-in_err-built-clause-inference : goal.returns-in_err-built-clause-inference
returns-in_err-built-clause-inference c = IfOk-from_err c.from_residual.result _ c.from_residual.ensures.0

pub returns-in_err-tables_of-clause-valid : goal.returns-in_err-tables_of-clause-valid
returns-in_err-tables_of-clause-valid c = IfOk-from_err c.from_residual-in_err-tables_of.result _ c.from_residual-in_err-tables_of.ensures.0

pub returns-in_err-tables_of-clause-tables : goal.returns-in_err-tables_of-clause-tables
returns-in_err-tables_of-clause-tables c =
    IfOk-from_err c.from_residual-in_err-tables_of.result _ c.from_residual-in_err-tables_of.ensures.0

pub returns-in_err-tables_of-clause-well_formed : goal.returns-in_err-tables_of-clause-well_formed
returns-in_err-tables_of-clause-well_formed c =
    IfOk-from_err c.from_residual-in_err-tables_of.result _ c.from_residual-in_err-tables_of.ensures.0

pub returns-in_err-tables_of-clause-acceptance : goal.returns-in_err-tables_of-clause-acceptance
returns-in_err-tables_of-clause-acceptance c =
    IfOk-from_err c.from_residual-in_err-tables_of.result _ c.from_residual-in_err-tables_of.ensures.0

pub returns-in_err-tables_of-clause-inference : goal.returns-in_err-tables_of-clause-inference
returns-in_err-tables_of-clause-inference c =
    IfOk-from_err c.from_residual-in_err-tables_of.result _ c.from_residual-in_err-tables_of.ensures.0

pub returns-clause-refused : goal.returns-clause-refused
returns-clause-refused c = search rules
