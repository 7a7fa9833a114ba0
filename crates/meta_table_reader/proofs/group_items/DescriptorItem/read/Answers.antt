use Rattle.std.proofs.Common.{◌++◌, refl, ◌∙◌}
use Rattle.meta_table_reader.proofs.NameBytes.{name_ascii, name_lacks_quote, plain_ascii, plain_lacks_quote}
use Rattle.meta_table_reader.proofs.DescriptorBlocks.{after_detail, at_detail, at_offset, at_description, descriptor_opened}
use Rattle.meta_table_reader.proofs.group_items.DescriptorItem.read.Goals as goal

pub returns : goal.returns
returns c = λ d rest shown e.
    let (name, n) = c.in_ok-name.ensures.item d.name (at_description d rest) (name_ascii d.name shown.name)
    (name_lacks_quote d.name shown.name) refl (e ∙ descriptor_opened d rest) in
    let (description, t) = c.in_ok-description.ensures.item d.description (at_offset d rest) (plain_ascii d.description shown.description)
    (plain_lacks_quote d.description shown.description) refl n in
    let (offset, o) = c.number_u32-offset.ensures.item d.offset (at_detail d rest) shown.offset refl refl t in
    let (detail, k) = c.detail-detail.ensures d.detail (after_detail ++ rest) shown.detail o in
    (λ i. record { name = name i; description = description i; offset = offset i; detail = detail i }, c.pass.ensures.item rest k)
