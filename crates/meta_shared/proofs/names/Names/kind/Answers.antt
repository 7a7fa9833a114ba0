use Rattle.std.proofs.lemmas.Result.{IfOk-from_err}
use Rattle.meta_shared.proofs.names.Names.kind.Goals as goal

pub returns-in_err-variable-in-Derived-clause-kind : goal.returns-in_err-variable-in-Derived-clause-kind
returns-in_err-variable-in-Derived-clause-kind c = IfOk-from_err c.from_residual.result _ c.from_residual.ensures.0

pub returns-in_err-variable-in-Derived-clause-grows : goal.returns-in_err-variable-in-Derived-clause-grows
returns-in_err-variable-in-Derived-clause-grows c = IfOk-from_err c.from_residual.result _ c.from_residual.ensures.0
