use Rattle.std.proofs.Common.{◌++◌, ap₂, ◌∙◌, codes, string_bytes}
use Rattle.std.proofs.lemmas.Result.{on_ok_weaker}
use Rattle.meta_query_lines.proofs.setting_line.push_preset_line.Goals as goal

pub returns : goal.returns
returns c =
    on_ok_weaker c.write.result
    (λ e. e ∙ ap₂ (λ name names. string_bytes c.args.out.now ++ (name ++ (codes " preset enables " ++ names)))
    c.as_str-name.ensures (c.as_str-names.ensures.value ∙ c.in_ok-names.ensures))
    c.write.ensures.bytes
