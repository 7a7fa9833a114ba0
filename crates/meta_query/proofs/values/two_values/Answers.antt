use Rattle.std.proofs.lemmas.Result.{IfOk-from_err}
use Rattle.meta_query.proofs.values.two_values.Goals as goal

pub returns-in_err-values : goal.returns-in_err-values
returns-in_err-values c = IfOk-from_err c.from_residual.result _ c.from_residual.ensures.0

pub returns-in_err-value : goal.returns-in_err-value
returns-in_err-value c = IfOk-from_err c.from_residual-in_err-value.result _ c.from_residual-in_err-value.ensures.0

pub returns-in_err-push : goal.returns-in_err-push
returns-in_err-push c = IfOk-from_err c.from_residual-in_err-push.result _ c.from_residual-in_err-push.ensures.0
