-- What can be told from its text, in the tables of a group of settings.
--     IsShownDetail d        the numbers of what an entry is fit their fields
--     IsShownDescriptor d    those of the entry do, and its name and description need no escape
--     AreShownGroup g        all of this holds in the tables of a group
use Rattle.std.specs.Prelude.{◌≡◌, ℕ, ◌*◌, ◌<◌, ◌^◌, ⊤, List, length, All}
use Rattle.std.specs.List.{flat_map}
use Rattle.meta_types.specs.Name.{IsName}
use Rattle.meta_settings.specs.GroupFaults.{IsPlainByte}
use Rattle.meta_setting_tables.specs.declared.descriptor.Detail.{Detail}
use Rattle.meta_setting_tables.specs.declared.descriptor.Detail.TheVariants.{Bool as ABool, Enum as AnEnum, Num as ANum, Preset}
use Rattle.meta_setting_tables.specs.declared.descriptor.Descriptor.{Descriptor}
use Rattle.meta_setting_tables.specs.GroupTables.{GroupContents}
use Rattle.meta_setting_tables.specs.EntryValues.{masks_from}
use Rattle.meta_table_text.specs.GroupText.{presets_in}

-- the numbers of an enum fit their fields, of 8 and of 16 bits
pub record IsShownEnum (number place : ℕ) : Type 0 where
  pub last : number < 2 ^ 8
  pub enumerators : place < 2 ^ 16

-- the numbers of what an entry is fit their fields
abbrev pub IsShownDetail : Detail → Type 0
IsShownDetail (ABool bit) = bit < 2 ^ 8
IsShownDetail (AnEnum last enumerators) = IsShownEnum last enumerators
IsShownDetail ANum = ⊤
IsShownDetail Preset = ⊤

-- the entry has a name, its description needs no escape, and its numbers fit their fields
pub record IsShownDescriptor (d : Descriptor) : Type 0 where
  pub name : IsName d.name
  pub description : All IsPlainByte d.description
  pub offset : d.offset < 2 ^ 32
  pub detail : IsShownDetail d.detail

-- a byte
abbrev pub IsByte : ℕ → Type 0
IsByte n = n < 256

-- the masks of a preset, which are one a setting byte
pub record AreShownMasksOf (size : ℕ) (masks : List ℕ) (d : Descriptor) : Type 0 where
  pub count : length (masks_from size masks d.offset) ≡ size
  pub bytes : All IsByte (masks_from size masks d.offset)

-- each preset has its masks, and there are no others
pub record AreShownPresets (descriptors : List Descriptor) (size : ℕ) (masks : List ℕ) : Type 0 where
  pub few : length (presets_in descriptors) * size < 2 ^ 64
  pub each : All (AreShownMasksOf size masks) (presets_in descriptors)
  pub joined : flat_map (λ (d : Descriptor). masks_from size masks d.offset) (presets_in descriptors) ≡ masks

-- all of this holds in the tables of a group, whose lists are counted in 16 bits
pub record AreShownGroup (g : GroupContents) : Type 0 where
  pub name : IsName g.name
  pub few_enumerators : length g.enumerators < 2 ^ 16
  pub few_entries : length g.descriptors < 2 ^ 16
  pub few_slots : length g.slots < 2 ^ 64
  pub enumerators : All IsName g.enumerators
  pub descriptors : All IsShownDescriptor g.descriptors
  pub presets : AreShownPresets g.descriptors (length g.defaults) g.preset_masks
  pub defaults : All IsByte g.defaults
