use Rattle.std.proofs.Common.{rules}
use Rattle.std.proofs.lemmas.Result.{IfOk-from_err}
use Rattle.meta_setting_tables.proofs.group_tables.detail_of.Goals as goal

pub returns-in_ok-place-in-Enum-clause-detail : goal.returns-in_ok-place-in-Enum-clause-detail
returns-in_ok-place-in-Enum-clause-detail c = search rules

pub returns-in_err-place-in-Enum-clause-detail : goal.returns-in_err-place-in-Enum-clause-detail
returns-in_err-place-in-Enum-clause-detail c = λ before e. IfOk-from_err c.from_residual.result _ c.from_residual.ensures.0

pub returns-in_err-place-in-Enum-clause-added : goal.returns-in_err-place-in-Enum-clause-added
returns-in_err-place-in-Enum-clause-added c = IfOk-from_err c.from_residual.result _ c.from_residual.ensures.0

pub returns-in_err-place-in-Enum-clause-grown : goal.returns-in_err-place-in-Enum-clause-grown
returns-in_err-place-in-Enum-clause-grown c = IfOk-from_err c.from_residual.result _ c.from_residual.ensures.0
