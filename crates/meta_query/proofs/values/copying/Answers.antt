use Rattle.std.proofs.lemmas.Result.{IfOk-from_err}
use Rattle.meta_query.proofs.values.copying.Goals as goal

pub returns-in_err-inputs-clause-inputs : goal.returns-in_err-inputs-clause-inputs
returns-in_err-inputs-clause-inputs c = IfOk-from_err c.from_residual.result _ c.from_residual.ensures.0

pub returns-in_err-inputs-clause-outputs : goal.returns-in_err-inputs-clause-outputs
returns-in_err-inputs-clause-outputs c = IfOk-from_err c.from_residual.result _ c.from_residual.ensures.0

pub returns-in_err-outputs-clause-inputs : goal.returns-in_err-outputs-clause-inputs
returns-in_err-outputs-clause-inputs c = IfOk-from_err c.from_residual-in_err-outputs.result _ c.from_residual-in_err-outputs.ensures.0

pub returns-in_err-outputs-clause-outputs : goal.returns-in_err-outputs-clause-outputs
returns-in_err-outputs-clause-outputs c = IfOk-from_err c.from_residual-in_err-outputs.result _ c.from_residual-in_err-outputs.ensures.0
