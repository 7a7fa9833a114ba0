use Rattle.std.proofs.Common.{◌<◌, ◌^◌, ◌++◌, All, length, arith, codes, refl, sym, ap, ◌∙◌, subst}
use Rattle.meta_table_text.specs.GroupItems.{bytes_text}
use Rattle.meta_table_text.specs.GroupText.{enumerators_text, descriptors_text, presets_text}
use Rattle.meta_table_reader.specs.ShownGroup.{IsShownDescriptor, AreShownPresets}
use Rattle.meta_table_reader.proofs.NameBytes.{name_ascii, name_lacks_dot}
use Rattle.meta_table_reader.proofs.ShownBytes.{bytes_lack}
use Rattle.meta_table_reader.proofs.TemplateLines.{template_lines, template_lines_are, before_defaults, after_defaults, template_opened}
use Rattle.meta_table_reader.proofs.GroupsTold.{at_template, at_presets, at_slots, at_descriptors, at_enumerators, group_opened}
use Rattle.meta_table_reader.proofs.groups.group.Goals as goal

pub returns : goal.returns
unfolding enumerators_text descriptors_text
returns c = λ g rest shown e.
    let size = length g.defaults in
    let (name, a) = c.in_ok-name.ensures.item g.name (codes ".\n" ++ at_enumerators g rest)
    (name_ascii g.name shown.name) (name_lacks_dot g.name shown.name) refl (e ∙ group_opened g rest) in
    let few_enumerators : length g.enumerators < 2 ^ 64 = let few = shown.few_enumerators in omega (arith, few) in
    let few_entries : length g.descriptors < 2 ^ 64 = let few = shown.few_entries in omega (arith, few) in
    let (enumerators, b) = c.in_ok-enumerators.ensures g.enumerators
    (at_descriptors g rest) shown.enumerators few_enumerators (c.pass.ensures.item (at_enumerators g rest) a) in
    let (descriptors, d) = c.in_ok-descriptors.ensures g.descriptors (at_slots g rest) shown.descriptors few_entries b in
    let f = c.skip_slots.ensures g.slots (at_presets g rest) shown.few_slots d in
    let same = sym (c.as_slice.ensures.value ∙ descriptors) in
    let (masks, h) = c.in_ok-preset_masks.ensures size g.preset_masks (at_template g rest)
    (subst (All IsShownDescriptor) same shown.descriptors)
    (subst (λ ds. AreShownPresets ds size g.preset_masks) same shown.presets)
    (f ∙ ap (λ ds. presets_text ds size g.preset_masks ++ at_template g rest) same) in
    let bytes = bytes_text g.defaults in
    let k = c.skip_lines.ensures.item (template_lines g.name) (before_defaults ++ (bytes ++ (after_defaults ++ rest)))
    (template_lines_are g.name shown.name) refl (h ∙ template_opened g.name bytes rest) in
    let (read, l) = c.until-shown.ensures.item bytes (after_defaults ++ rest) (bytes_lack g.defaults shown.defaults) refl k in
    let defaults = c.in_ok-defaults.ensures g.defaults shown.defaults read in (
      record {
        name = sym name;
        descriptors = sym descriptors;
        enumerators = sym enumerators;
        defaults = sym defaults;
        preset_masks = sym masks;
      },
      c.pass-2.ensures.item rest l,
    )
