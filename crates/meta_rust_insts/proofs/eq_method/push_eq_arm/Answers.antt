use Rattle.std.proofs.Common.{[], ◌∷◌, ◌∙◌}
use Rattle.std.proofs.lemmas.Result.{on_ok_weaker}
use Rattle.meta_text.proofs.Steps.{filled_is}
use Rattle.meta_rust_insts.proofs.MethodTemplates.{eq_arm_same}
use Rattle.meta_rust_insts.proofs.eq_method.push_eq_arm.Goals as goal

pub returns : goal.returns
returns c = on_ok_weaker c.fill.result
    (λ e. filled_is _ _ _ _ _ _ e (λ i. c.as_str.ensures i ∷ (c.as_str-2.ensures.value ∙ c.in_ok-first.ensures) i ∷ (c.as_str-3.ensures.value ∙ c.in_ok-second.ensures) i ∷ (c.as_str-4.ensures.value ∙ c.in_ok-members.ensures) i ∷ [])
    (eq_arm_same c.args.format.now))
    c.fill.ensures
