use Rattle.std.proofs.Common.{◌++◌, codes, slice_index, refl, sym, ap, ◌∙◌, subst}
use Rattle.std.specs.Fmt.{decimal}
use Rattle.meta_setting_tables.specs.declared.descriptor.Detail.TheVariants.{Bool as ABool, Enum as AnEnum}
use Rattle.meta_table_text.specs.GroupItems.{detail_text}
use Rattle.meta_table_reader.specs.ShownGroup.{IsShownDetail}
use Rattle.meta_table_reader.proofs.DescriptorBlocks.{bool_opened, before_enumerators, enum_opened}
use Rattle.meta_table_reader.proofs.Details.{is_bool, is_enum, is_num, is_preset}
use Rattle.meta_table_reader.proofs.group_items.detail.Goals as goal

pub returns-then-kind-eq66 : goal.returns-then-kind-eq66
returns-then-kind-eq66 c = λ d rest shown e.
    let (bit, same) = is_bool d rest (sym (ap (λ t. slice_index t 34) e) ∙ sym c.byte_at-kind.ensures ∙ c.if-kind-eq66.true) in
    let (read, left) = c.number_u8-bit.ensures.item bit (codes " }" ++ rest) (subst IsShownDetail same shown) refl refl (e
    ∙ ap (λ d. codes ",\n        detail: " ++ (detail_text d ++ rest)) same ∙ bool_opened bit rest) in
    (ap ABool read ∙ sym same, c.pass.ensures.item rest left)

pub returns-then-kind-eq69 : goal.returns-then-kind-eq69
returns-then-kind-eq69 c = λ d rest shown e.
    let (last, enumerators, same) = is_enum d rest (sym (ap (λ t. slice_index t 34) e) ∙ sym c.byte_at-kind.ensures ∙ c.if-kind-eq69.true)
    in
    let fit = subst IsShownDetail same shown in
    let (read_last, a) = c.number_u8-last.ensures.item last
    (before_enumerators ++ (decimal enumerators ++ (codes " }" ++ rest))) fit.last refl refl (e
    ∙ ap (λ d. codes ",\n        detail: " ++ (detail_text d ++ rest)) same ∙ enum_opened last enumerators rest) in
    let (read, b) = c.number_u16-enumerators.ensures.item enumerators (codes " }" ++ rest) fit.enumerators refl refl a in
    ((λ i. AnEnum (read_last i) (read i)) ∙ sym same, c.pass-then-kind-eq69.ensures.item rest b)

pub returns-then-kind-eq78 : goal.returns-then-kind-eq78
returns-then-kind-eq78 c = λ d rest shown e.
    let same = is_num d rest (sym (ap (λ t. slice_index t 34) e) ∙ sym c.byte_at-kind.ensures ∙ c.if-kind-eq78.true) in
    (sym same, c.pass-then-kind-eq78.ensures.item rest (e ∙ ap (λ d. codes ",\n        detail: " ++ (detail_text d ++ rest)) same))

pub returns : goal.returns
returns c = λ d rest shown e.
    let kind = c.byte_at-kind.ensures ∙ ap (λ t. slice_index t 34) e in
    let same = is_preset d rest (λ x. c.if-kind-eq66.false (kind ∙ x)) (λ x. c.if-kind-eq69.false (kind ∙ x))
    (λ x. c.if-kind-eq78.false (kind ∙ x)) in
    (sym same, c.pass-2.ensures.item rest (e ∙ ap (λ d. codes ",\n        detail: " ++ (detail_text d ++ rest)) same))
