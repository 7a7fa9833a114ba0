use Rattle.std.proofs.lemmas.Result.{IfOk-from_err}
use Rattle.meta_shared.proofs.declaring.operand.Goals as goal

pub returns-in_err-name-clause-operand : goal.returns-in_err-name-clause-operand
returns-in_err-name-clause-operand c = IfOk-from_err c.from_residual.result _ c.from_residual.ensures.0

pub returns-in_err-name-clause-grows : goal.returns-in_err-name-clause-grows
returns-in_err-name-clause-grows c = IfOk-from_err c.from_residual.result _ c.from_residual.ensures.0

pub returns-in_err-kind-clause-operand : goal.returns-in_err-kind-clause-operand
returns-in_err-kind-clause-operand c = IfOk-from_err c.from_residual-in_err-kind.result _ c.from_residual-in_err-kind.ensures.0

pub returns-in_err-kind-clause-grows : goal.returns-in_err-kind-clause-grows
returns-in_err-kind-clause-grows c = IfOk-from_err c.from_residual-in_err-kind.result _ c.from_residual-in_err-kind.ensures.0

pub returns-in_err-doc-clause-operand : goal.returns-in_err-doc-clause-operand
returns-in_err-doc-clause-operand c = IfOk-from_err c.from_residual-in_err-doc.result _ c.from_residual-in_err-doc.ensures.0

pub returns-in_err-doc-clause-grows : goal.returns-in_err-doc-clause-grows
returns-in_err-doc-clause-grows c = IfOk-from_err c.from_residual-in_err-doc.result _ c.from_residual-in_err-doc.ensures.0
