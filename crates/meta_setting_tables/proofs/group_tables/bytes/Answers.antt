use Rattle.std.proofs.lemmas.Result.{IfOk-from_err}
use Rattle.meta_setting_tables.proofs.group_tables.bytes.Goals as goal

pub returns-in_err-defaults-clause-defaults : goal.returns-in_err-defaults-clause-defaults
returns-in_err-defaults-clause-defaults c = IfOk-from_err c.from_residual.result _ c.from_residual.ensures.0

pub returns-in_err-defaults-clause-bytes : goal.returns-in_err-defaults-clause-bytes
returns-in_err-defaults-clause-bytes c = IfOk-from_err c.from_residual.result _ c.from_residual.ensures.0

pub returns-in_err-defaults-clause-masks : goal.returns-in_err-defaults-clause-masks
returns-in_err-defaults-clause-masks c = IfOk-from_err c.from_residual.result _ c.from_residual.ensures.0

pub returns-in_err-preset_masks-clause-defaults : goal.returns-in_err-preset_masks-clause-defaults
returns-in_err-preset_masks-clause-defaults c =
    IfOk-from_err c.from_residual-in_err-preset_masks.result _ c.from_residual-in_err-preset_masks.ensures.0

pub returns-in_err-preset_masks-clause-bytes : goal.returns-in_err-preset_masks-clause-bytes
returns-in_err-preset_masks-clause-bytes c =
    IfOk-from_err c.from_residual-in_err-preset_masks.result _ c.from_residual-in_err-preset_masks.ensures.0

pub returns-in_err-preset_masks-clause-masks : goal.returns-in_err-preset_masks-clause-masks
returns-in_err-preset_masks-clause-masks c =
    IfOk-from_err c.from_residual-in_err-preset_masks.result _ c.from_residual-in_err-preset_masks.ensures.0
