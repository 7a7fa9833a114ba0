use Rattle.std.proofs.lemmas.Result.{IfOk-from_err}
use Rattle.meta_query.proofs.instructions.without_values.Goals as goal

pub returns-in_err-name : goal.returns-in_err-name
returns-in_err-name c = IfOk-from_err c.from_residual.result _ c.from_residual.ensures.0

pub returns-in_err-doc : goal.returns-in_err-doc
returns-in_err-doc c = IfOk-from_err c.from_residual-in_err-doc.result _ c.from_residual-in_err-doc.ensures.0
