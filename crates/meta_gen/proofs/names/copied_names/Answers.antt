use Rattle.std.proofs.Common.{◌∙◌}
use Rattle.std.proofs.lemmas.Result.{IfOk-from_err}
use Rattle.meta_gen.proofs.Made.{copied_more}
use Rattle.meta_gen.proofs.names.copied_names.Goals as goal

pub loop-k-preserved : goal.loop-k-preserved
loop-k-preserved c = copied_more _ _ _ _ _ _ c.get.ensures (c.in_ok-copy.ensures
    ∙ c.name.ensures) c.loop-k.invariant c.in_ok-push.ensures.items

pub returns-in_err-copy : goal.returns-in_err-copy
returns-in_err-copy c = IfOk-from_err c.from_residual.result _ c.from_residual.ensures.0

pub returns-in_err-push : goal.returns-in_err-push
returns-in_err-push c = IfOk-from_err c.from_residual-in_err-push.result _ c.from_residual-in_err-push.ensures.0
