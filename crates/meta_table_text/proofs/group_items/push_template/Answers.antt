use Rattle.std.proofs.Common.{◌++◌, ap, ◌∙◌, string_bytes}
use Rattle.std.proofs.lemmas.Result.{on_ok_weaker}
use Rattle.meta_table_text.specs.GroupItems.{template_text}
use Rattle.meta_table_text.proofs.group_items.push_template.Goals as goal

pub returns : goal.returns
unfolding template_text
returns c =
    on_ok_weaker c.write.result
    (λ e. e ∙ ap (λ bytes. string_bytes c.args.out.now ++ template_text c.args.name.now bytes)
    (c.as_str-defaults.ensures.value ∙ c.in_ok-shown.ensures))
    c.write.ensures.bytes
