use Rattle.std.proofs.Common.{◌++◌, codes, refl, ◌∙◌}
use Rattle.meta_table_reader.proofs.NameBytes.{name_ascii, name_lacks_quote}
use Rattle.meta_table_reader.proofs.DescriptorBlocks.{enumerator_opened}
use Rattle.meta_table_reader.proofs.group_items.TextItem.read.Goals as goal

pub returns : goal.returns
returns c = λ name rest is e.
    let (read, left) = c.in_ok-name.ensures.item name (codes "\",\n" ++ rest) (name_ascii name is) (name_lacks_quote name is) refl (e
    ∙ enumerator_opened name rest) in
    (read, c.pass.ensures.item rest left)
