use Rattle.std.proofs.Common.{◌++◌, sym, ap, ◌∙◌, codes, string_bytes}
use Rattle.std.proofs.lemmas.Result.{IfOk-weaker}
use Rattle.meta_rust_text.proofs.Angles.{joined_in_angles}
use Rattle.meta_rust_text.proofs.type_parameters.in_angles.Goals as goal

pub returns : goal.returns
returns c =
    IfOk-weaker c.format.result _ _ (λ text e.
    e ∙ ap (λ t. codes "<" ++ (t ++ codes ">")) c.in_ok-joined.ensures.ok
    ∙ joined_in_angles string_bytes c.args.texts.now (sym c.is_empty.ensures ∙ c.if-is_empty.false))
    c.format.ensures.ok
