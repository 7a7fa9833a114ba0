use Rattle.std.proofs.Common.{List, length, refl, subst, ap, arith}
use Rattle.std.proofs.lemmas.Result.{IfOk-from_err}
use Rattle.meta_unique.specs.NameSlots.{AreNameSlots}
use Rattle.meta_setting_tables.specs.declared.descriptor.Descriptor.{Descriptor}
use Rattle.meta_setting_tables.specs.GroupTables.{names_in}
use Rattle.meta_setting_tables.proofs.group_tables.GroupTables.with_parts.Goals as goal

pub entry_slots-requires : goal.entry_slots-requires
entry_slots-requires c =
    let same = ap length c.as_slice.ensures.value in let few = c.requires.limits.few_entries in omega (arith, same, few)

pub returns-in_err-slots-clause-parts : goal.returns-in_err-slots-clause-parts
returns-in_err-slots-clause-parts c = IfOk-from_err c.from_residual.result _ c.from_residual.ensures.0

pub returns-in_err-slots-clause-well_formed : goal.returns-in_err-slots-clause-well_formed
returns-in_err-slots-clause-well_formed c = IfOk-from_err c.from_residual.result _ c.from_residual.ensures.0

pub invariant_of-result : goal.invariant_of-result
invariant_of-result c = record {
  well_formed = record {
    limits = c.requires.limits;
    names = c.requires.names;
    placed = c.requires.placed;
    values = c.requires.values;
    defaults = c.requires.defaults;
    masks = c.requires.masks;
    slots = subst (λ (w : List Descriptor). AreNameSlots 0 (names_in w) c.in_ok-slots.slots.items)
        c.as_slice.ensures.value c.in_ok-slots.ensures.slots;
  };
  vacant = c.in_ok-slots.ensures.vacant;
}

pub returns-clause-parts : goal.returns-clause-parts
returns-clause-parts c = record { name = refl; descriptors = refl; enumerators = refl; defaults = refl; preset_masks = refl }

pub returns-clause-well_formed : goal.returns-clause-well_formed
returns-clause-well_formed c = (invariant_of-result c).well_formed
