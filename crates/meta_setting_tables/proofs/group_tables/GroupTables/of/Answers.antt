use Rattle.std.proofs.Common.{List, length, subst, ap, ◌∙◌, arith}
use Rattle.meta_unique.specs.NameSlots.{AreNameSlots}
use Rattle.meta_setting_tables.specs.declared.descriptor.Descriptor.{Descriptor}
use Rattle.meta_setting_tables.specs.GroupTables.{GroupContents, names_in}
use Rattle.meta_setting_tables.proofs.WellFormedTables.{well_formed}
use Rattle.meta_setting_tables.proofs.WholeGroup.{named_count, tables_are}
use Rattle.meta_setting_tables.proofs.group_tables.GroupTables.of.Goals as goal

pub entry_slots-requires : goal.entry_slots-requires
entry_slots-requires c =
    let count = named_count c.args.group.now c.in_ok-described.described.descriptors.items c.in_ok-described.ensures.names in
    let same = ap length c.as_slice.ensures.value in
    let few = c.requires.few in
    omega (arith, count, same, few)

pub invariant_of-result : goal.invariant_of-result
invariant_of-result c =
    let g = c.args.group.now in
    let t : GroupContents = record {
      name = c.in_ok-copy.field-0;
      descriptors = c.in_ok-described.described.descriptors.items;
      enumerators = c.in_ok-described.described.enumerators.items;
      defaults = c.in_ok-bytes.bytes.defaults.items;
      preset_masks = c.in_ok-bytes.bytes.preset_masks.items;
      slots = c.in_ok-slots.slots.items;
    } in
    let tables =
    tables_are g t (c.in_ok-copy.ensures ∙ c.name.ensures) c.in_ok-described.ensures.names
    c.in_ok-described.ensures.entries c.in_ok-described.ensures.enumerators c.in_ok-bytes.ensures.defaults c.in_ok-bytes.ensures.masks
    (subst (λ (w : List Descriptor). AreNameSlots 0 (names_in w) t.slots) c.as_slice.ensures.value c.in_ok-slots.ensures.slots) in
    record {
      well_formed = well_formed g t c.requires c.described.ensures.sized tables c.described.ensures.small
          c.in_ok-bytes.ensures.bytes;
      vacant = c.in_ok-slots.ensures.vacant;
    }

pub returns-clause-tables : goal.returns-clause-tables
returns-clause-tables c =
    let g = c.args.group.now in
    let t : GroupContents = record {
      name = c.in_ok-copy.field-0;
      descriptors = c.in_ok-described.described.descriptors.items;
      enumerators = c.in_ok-described.described.enumerators.items;
      defaults = c.in_ok-bytes.bytes.defaults.items;
      preset_masks = c.in_ok-bytes.bytes.preset_masks.items;
      slots = c.in_ok-slots.slots.items;
    } in
    tables_are g t (c.in_ok-copy.ensures ∙ c.name.ensures) c.in_ok-described.ensures.names
    c.in_ok-described.ensures.entries c.in_ok-described.ensures.enumerators c.in_ok-bytes.ensures.defaults c.in_ok-bytes.ensures.masks
    (subst (λ (w : List Descriptor). AreNameSlots 0 (names_in w) t.slots) c.as_slice.ensures.value c.in_ok-slots.ensures.slots)

pub returns-clause-well_formed : goal.returns-clause-well_formed
returns-clause-well_formed c = (invariant_of-result c).well_formed
