use Rattle.std.proofs.Common.{◌++◌, string_bytes, ap, ◌∙◌}
use Rattle.std.proofs.lemmas.Result.{on_ok_weaker}
use Rattle.meta_types.specs.TypeParts.{name_of}
use Rattle.meta_explain.proofs.texts.push_type.Goals as goal

pub returns : goal.returns
returns c = on_ok_weaker c.write.result (λ e. e ∙ ap (λ t. string_bytes c.args.out.now ++ name_of t) c.type_of-value_type.ensures)
    c.write.ensures.bytes
