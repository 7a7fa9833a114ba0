use Rattle.std.proofs.lemmas.Result.{IfOk-from_err}
use Rattle.meta_shared.proofs.kind_rows.insert.Goals as goal

pub returns-in_err-name : goal.returns-in_err-name
returns-in_err-name c = IfOk-from_err c.from_residual.result _ c.from_residual.ensures.0

pub returns-in_err-variant : goal.returns-in_err-variant
returns-in_err-variant c = IfOk-from_err c.from_residual-in_err-variant.result _ c.from_residual-in_err-variant.ensures.0

pub returns-in_err-insert : goal.returns-in_err-insert
returns-in_err-insert c = IfOk-from_err c.from_residual-in_err-insert.result _ c.from_residual-in_err-insert.ensures.0
