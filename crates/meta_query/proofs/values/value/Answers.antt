use Rattle.std.proofs.lemmas.Result.{IfOk-from_err}
use Rattle.meta_query.proofs.values.value.Goals as goal

pub returns-in_err-kind : goal.returns-in_err-kind
returns-in_err-kind c = IfOk-from_err c.from_residual.result _ c.from_residual.ensures.0

pub returns-in_err-new : goal.returns-in_err-new
returns-in_err-new c = IfOk-from_err c.from_residual-in_err-new.result _ c.from_residual-in_err-new.ensures.0
