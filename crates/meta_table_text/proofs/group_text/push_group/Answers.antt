use Rattle.std.proofs.Common.{◌≡◌, ◌++◌, length, option_map, Some, None, sym, ap, ap₂, ◌∙◌, string_bytes}
use Rattle.std.proofs.lemmas.Option.{same_Some}
use Rattle.std.proofs.lemmas.Result.{on_ok_weaker}
use Rattle.meta_table_text.specs.GroupItems.{head_text, bytes_text, template_text}
use Rattle.meta_table_text.specs.GroupText.{enumerators_text, descriptors_text, slots_text, presets_text, group_text}
use Rattle.meta_table_text.proofs.Lists.{six}
use Rattle.meta_table_text.proofs.group_text.push_group.Goals as goal

pub returns-clause-text : goal.returns-clause-text
unfolding group_text head_text
returns-clause-text c =
    let old = string_bytes c.args.out.now in
    let g = c.in-Some.group.now in
    let name = c.as_str-name.ensures ∙ c.name.ensures in
    on_ok_weaker c.push_template.result
    (λ e t at.
    let same = same_Some g t (ap (option_map (λ t. t.now)) (sym c.in-Some.is) ∙ c.group.ensures ∙ at) in
    six old (head_text g.name) (enumerators_text g.enumerators) (descriptors_text g.descriptors)
    (slots_text g.slots) (presets_text g.descriptors (length g.defaults) g.preset_masks) (template_text g.name (bytes_text g.defaults))
    (c.in_ok-write.ensures.bytes ∙ ap (λ n. old ++ head_text n) name)
    (c.in_ok-push_enumerators.ensures ∙ ap (λ names. string_bytes c.write.new.self ++ enumerators_text names) c.enumerators.ensures)
    (c.in_ok-push_descriptors.ensures
    ∙ ap (λ ds. string_bytes c.push_enumerators.new.out ++ descriptors_text ds) c.descriptors.ensures.entries)
    (c.in_ok-push_slots.ensures ∙ ap (λ slots. string_bytes c.push_descriptors.new.out ++ slots_text slots) c.setting_slots.ensures.slots)
    c.in_ok-push_presets.ensures
    (e ∙ ap₂ (λ n bytes. string_bytes c.push_presets.new.out ++ template_text n (bytes_text bytes)) name c.defaults.ensures)
    ∙ ap (λ x. old ++ group_text x) same)
    c.push_template.ensures

pub returns-clause-no_group : goal.returns-clause-no_group
returns-clause-no_group c = λ none.
    let bad : Some c.in-Some.group.now ≡ None = ap (option_map (λ t. t.now)) (sym c.in-Some.is) ∙ c.group.ensures ∙ none in
    absurd (cc)

pub returns-in_default-clause-text : goal.returns-in_default-clause-text
returns-in_default-clause-text c = λ g at.
    let bad : None ≡ Some g = ap (option_map (λ t. t.now)) (sym c.in_default.is) ∙ c.group.ensures ∙ at in
    absurd (cc)
