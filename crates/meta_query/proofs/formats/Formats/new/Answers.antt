use Rattle.std.proofs.lemmas.Result.{IfOk-from_err}
use Rattle.meta_query.proofs.formats.Formats.new.Goals as goal

pub returns-in_err-new-clause-numbered : goal.returns-in_err-new-clause-numbered
returns-in_err-new-clause-numbered c = IfOk-from_err c.from_residual.result _ c.from_residual.ensures.0

pub returns-in_err-new-clause-added : goal.returns-in_err-new-clause-added
returns-in_err-new-clause-added c = IfOk-from_err c.from_residual.result _ c.from_residual.ensures.0

pub returns-in_err-null_ary-clause-numbered : goal.returns-in_err-null_ary-clause-numbered
returns-in_err-null_ary-clause-numbered c = IfOk-from_err c.from_residual-in_err-null_ary.result _ c.from_residual-in_err-null_ary.ensures.0

pub returns-in_err-null_ary-clause-added : goal.returns-in_err-null_ary-clause-added
returns-in_err-null_ary-clause-added c = IfOk-from_err c.from_residual-in_err-null_ary.result _ c.from_residual-in_err-null_ary.ensures.0

pub returns-in_err-new-2-clause-numbered : goal.returns-in_err-new-2-clause-numbered
returns-in_err-new-2-clause-numbered c = IfOk-from_err c.from_residual-in_err-new-2.result _ c.from_residual-in_err-new-2.ensures.0

pub returns-in_err-new-2-clause-added : goal.returns-in_err-new-2-clause-added
returns-in_err-new-2-clause-added c = IfOk-from_err c.from_residual-in_err-new-2.result _ c.from_residual-in_err-new-2.ensures.0

pub returns-in_err-unary-clause-numbered : goal.returns-in_err-unary-clause-numbered
returns-in_err-unary-clause-numbered c = IfOk-from_err c.from_residual-in_err-unary.result _ c.from_residual-in_err-unary.ensures.0

pub returns-in_err-unary-clause-added : goal.returns-in_err-unary-clause-added
returns-in_err-unary-clause-added c = IfOk-from_err c.from_residual-in_err-unary.result _ c.from_residual-in_err-unary.ensures.0

pub returns-in_err-new-3-clause-numbered : goal.returns-in_err-new-3-clause-numbered
returns-in_err-new-3-clause-numbered c = IfOk-from_err c.from_residual-in_err-new-3.result _ c.from_residual-in_err-new-3.ensures.0

pub returns-in_err-new-3-clause-added : goal.returns-in_err-new-3-clause-added
returns-in_err-new-3-clause-added c = IfOk-from_err c.from_residual-in_err-new-3.result _ c.from_residual-in_err-new-3.ensures.0

pub returns-in_err-binary-clause-numbered : goal.returns-in_err-binary-clause-numbered
returns-in_err-binary-clause-numbered c = IfOk-from_err c.from_residual-in_err-binary.result _ c.from_residual-in_err-binary.ensures.0

pub returns-in_err-binary-clause-added : goal.returns-in_err-binary-clause-added
returns-in_err-binary-clause-added c = IfOk-from_err c.from_residual-in_err-binary.result _ c.from_residual-in_err-binary.ensures.0
