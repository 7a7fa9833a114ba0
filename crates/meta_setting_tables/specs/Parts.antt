-- The parts of the tables of a group: all but the slots, which follow from the names.
--     HasGroupParts parts t   the tables have these parts
--     AreGoodParts parts    well-formed tables can have them
use Rattle.std.specs.Prelude.{◌≡◌, All}
use Rattle.meta_setting_tables.specs.declared.descriptor.Descriptor.{Descriptor}
use Rattle.meta_setting_tables.specs.declared.parts.GroupParts.{GroupParts}
use Rattle.meta_setting_tables.specs.GroupTables.{GroupContents}
use Rattle.meta_setting_tables.specs.WellFormed.{KeepLimits, AreWellNamed, ArePlaced, HasItsValues, AreGoodDefaults, AreGoodMasks}

-- the tables have these parts
pub record HasGroupParts (parts : GroupParts) (t : GroupContents) : Type 0 where
  pub name : t.name ≡ parts.name
  pub descriptors : t.descriptors ≡ parts.descriptors.items
  pub enumerators : t.enumerators ≡ parts.enumerators.items
  pub defaults : t.defaults ≡ parts.defaults.items
  pub preset_masks : t.preset_masks ≡ parts.preset_masks.items

-- what is asked of well-formed tables, but of their slots
pub record AreGoodParts (parts : GroupParts) : Type 0 where
  pub limits : KeepLimits parts.descriptors.items parts.enumerators.items
  pub names : AreWellNamed parts.name parts.descriptors.items parts.enumerators.items
  pub placed : ArePlaced parts.descriptors.items
  pub values : All (λ (d : Descriptor). HasItsValues parts.enumerators.items d.detail) parts.descriptors.items
  pub defaults : AreGoodDefaults parts.descriptors.items parts.defaults.items
  pub masks : AreGoodMasks parts.descriptors.items parts.preset_masks.items
