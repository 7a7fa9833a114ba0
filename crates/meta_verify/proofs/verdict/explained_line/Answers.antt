use Rattle.std.proofs.Common.{◌++◌, ℕ, List, ap, ◌∙◌}
use Rattle.std.proofs.lemmas.Result.{IfOk-weaker}
use Rattle.meta_verify.specs.Why.{explained_text}
use Rattle.meta_verify.proofs.verdict.explained_line.Goals as goal

pub returns : goal.returns
returns c =
    let (more, told, is) = c.in_ok-push_why.ensures in
    IfOk-weaker c.told_line.result _ _
    (λ text e. (
      more,
      told,
      e ∙ ap (λ (m : List ℕ). explained_text c.args.wrong.number c.args.wrong.reason m)
          (c.as_str.ensures.value ∙ is ∙ ap (λ (m : List ℕ). m ++ more) c.new-more.ensures.bytes),
    ))
    c.told_line.ensures
