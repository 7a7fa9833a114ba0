use Rattle.std.proofs.Common.{◌≡◌, ◌++◌, append-nil, length, map, flat_map, sym, ap, ◌∙◌, string_bytes}
use Rattle.std.proofs.lemmas.Option.{same_Some}
use Rattle.std.proofs.lemmas.Result.{on_ok_weaker}
use Rattle.meta_lists.proofs.Joined.{two}
use Rattle.meta_setting_tables.specs.declared.descriptor.Descriptor.{Descriptor}
use Rattle.meta_setting_tables.specs.EntryValues.{masks_from, names_on}
use Rattle.meta_table_text.specs.GroupItems.{pair_text, texts_with_commas, comment_text}
use Rattle.meta_table_text.specs.GroupText.{preset_text}
use Rattle.meta_table_text.proofs.Lists.{all_is}
use Rattle.meta_table_text.proofs.GroupLists.{none_left, names_joined, preset_written, setting_written}
use Rattle.meta_table_text.proofs.group_text.push_preset.Goals as goal

pub returns-in_default : goal.returns-in_default
returns-in_default c = λ d at name.
    let g = c.args.group.now in
    let none = setting_written (preset_text g.descriptors (length g.defaults) g.preset_masks) d
    (λ is. c.in_default.ensures.none d (record { there = at; is_preset = is })) in
    sym (ap (λ t. string_bytes c.args.out.now ++ t) none ∙ append-nil (string_bytes c.args.out.now))

pub returns : goal.returns
unfolding preset_text comment_text
returns c = λ d at name.
    let g = c.args.group.now in
    let m = c.in-Some.ensures.masks in
    let same : d ≡ m.0 = same_Some d m.0 (sym at ∙ m.1.there) in
    let called = name ∙ ap (λ (x : Descriptor). x.name) same in
    let own = masks_from (length g.defaults) g.preset_masks m.0.offset in
    let text = preset_text g.descriptors (length g.defaults) g.preset_masks in
    let booleans = ap (map (λ n. n.now)) c.as_slice.ensures.value ∙ c.in_ok-booleans.ensures.entry m.0 m.1 in
    let enabled = c.as_str-enabled.ensures.value ∙ c.in_ok-shown.ensures.ok ∙ names_joined c.as_slice.result.now
    ∙ ap texts_with_commas booleans in
    on_ok_weaker c.write.result
    (λ e. two (string_bytes c.args.out.now) (flat_map pair_text own) (comment_text m.0.name (texts_with_commas (names_on g.descriptors own)))
    (all_is _ _ _ c.loop-mask.invariant (ap (flat_map pair_text) (none_left c.in-Some.masks.now c.loop-mask.mask-index c.loop-mask-test.false))
    ∙ ap (λ ms. string_bytes c.args.out.now ++ flat_map pair_text ms) m.2)
    (e ∙ (λ i. string_bytes c.loop-mask.out ++ comment_text (called i) (enabled i)))
    ∙ ap (λ t. string_bytes c.args.out.now ++ t) (ap text (sym same)
    ∙ sym (preset_written text d (ap (λ (x : Descriptor). x.detail) same ∙ m.1.is_preset))))
    c.write.ensures.bytes
