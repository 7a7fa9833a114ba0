use Rattle.std.proofs.Common.{◌++◌, ap₂, ◌∙◌, string_bytes}
use Rattle.std.proofs.lemmas.Result.{on_ok_weaker}
use Rattle.meta_table_text.specs.GroupItems.{descriptor_block}
use Rattle.meta_table_text.proofs.group_items.push_descriptor.Goals as goal

pub returns : goal.returns
unfolding descriptor_block
returns c =
    let entry = c.args.entry.now in
    on_ok_weaker c.write.result
    (λ e. e ∙ ap₂ (λ name description. string_bytes c.args.out.now ++ descriptor_block name description entry.offset entry.detail)
    c.as_str-name.ensures c.as_str-description.ensures)
    c.write.ensures.bytes
