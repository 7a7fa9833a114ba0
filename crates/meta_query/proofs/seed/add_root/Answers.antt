use Rattle.std.proofs.lemmas.Result.{IfOk-from_err}
use Rattle.meta_query.proofs.seed.add_root.Goals as goal

pub returns-in_err-set-clause-number : goal.returns-in_err-set-clause-number
returns-in_err-set-clause-number c = IfOk-from_err c.from_residual.result _ c.from_residual.ensures.0

pub returns-in_err-set-clause-added : goal.returns-in_err-set-clause-added
returns-in_err-set-clause-added c = IfOk-from_err c.from_residual.result _ c.from_residual.ensures.0

pub returns-in_err-name-clause-number : goal.returns-in_err-name-clause-number
returns-in_err-name-clause-number c = IfOk-from_err c.from_residual-in_err-name.result _ c.from_residual-in_err-name.ensures.0

pub returns-in_err-name-clause-added : goal.returns-in_err-name-clause-added
returns-in_err-name-clause-added c = IfOk-from_err c.from_residual-in_err-name.result _ c.from_residual-in_err-name.ensures.0

pub returns-in_err-doc-clause-number : goal.returns-in_err-doc-clause-number
returns-in_err-doc-clause-number c = IfOk-from_err c.from_residual-in_err-doc.result _ c.from_residual-in_err-doc.ensures.0

pub returns-in_err-doc-clause-added : goal.returns-in_err-doc-clause-added
returns-in_err-doc-clause-added c = IfOk-from_err c.from_residual-in_err-doc.result _ c.from_residual-in_err-doc.ensures.0
