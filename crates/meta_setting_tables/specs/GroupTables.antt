-- The tables of a group of settings.
--     GroupContents                    what they hold
--     AreTablesOfGroup g t             they are those of the group
use Rattle.std.specs.Prelude.{ℕ, ◌≡◌, ◌+◌, ◌≤◌, ◌<◌, Bool, true, false, List, length, map, slice_get, Option, Some, None}
use Rattle.std.specs.Int.{bit_at}
use Rattle.meta_settings.specs.Layout.{PlacedSetting, BuiltPreset, Layout}
use Rattle.meta_setting_tables.specs.declared.descriptor.Detail.{Detail}
use Rattle.meta_setting_tables.specs.declared.descriptor.Detail.TheVariants.{Bool as ABool, Enum as AnEnum, Num as ANum, Preset}
use Rattle.meta_setting_tables.specs.declared.descriptor.Descriptor.{Descriptor}
use Rattle.meta_setting_tables.specs.EnumeratorList.{enumerators_of}
use Rattle.meta_setting_tables.specs.Descriptor.{DescribesEntry}
use Rattle.meta_setting_tables.specs.DefaultBytes.{AreDefaultsOf, default_number}
use Rattle.meta_setting_tables.specs.PresetMasks.{ArePresetMasks, TurnsOnOnly}
use Rattle.meta_unique.specs.NameSlots.{AreNameSlots}
use Rattle.meta_setting_tables.specs.FoundSetting.{entry_names, laid_entry_count}

-- the group's name, its entries, the values of its enums, its default bytes, the masks of its presets, and the slots of the
-- names of its entries
pub record GroupContents : Type 0 where
  pub name : List ℕ
  pub descriptors : List Descriptor
  pub enumerators : List (List ℕ)
  pub defaults : List ℕ
  pub preset_masks : List ℕ
  pub slots : List (Option ℕ)

-- the names of the entries
abbrev pub names_in : List Descriptor → List (List ℕ)
names_in descriptors = map (λ d. d.name) descriptors

-- the entry is a preset
pub record IsPresetIn (descriptors : List Descriptor) (e : ℕ) (d : Descriptor) : Type 0 where
  pub there : slice_get descriptors e ≡ Some d
  pub is_preset : d.detail ≡ Preset

-- the descriptor points inside the `size` default bytes, and a preset's inside the masks
abbrev pub IsInside : ℕ → ℕ → ℕ → Detail → Type 0
IsInside size masks offset (ABool bit) = (offset < size) × (bit < 8)
IsInside size masks offset (AnEnum last enumerators) = offset < size
IsInside size masks offset ANum = offset < size
IsInside size masks offset Preset = offset + size ≤ masks

-- the tables are those of the group
pub record AreTablesOfGroup (g : Layout) (t : GroupContents) : Type 0 where
  pub name : t.name ≡ g.name
  pub count : length t.descriptors ≡ laid_entry_count g
  pub names : names_in t.descriptors ≡ entry_names g
  pub entries : (e : ℕ) (d : Descriptor) → slice_get t.descriptors e ≡ Some d → DescribesEntry g t.enumerators e d
  pub enumerators : t.enumerators ≡ enumerators_of g.settings
  pub defaults : AreDefaultsOf g t.defaults
  pub masks : ArePresetMasks g t.preset_masks
  pub slots : AreNameSlots 0 (entry_names g) t.slots

-- entry e of the group is preset p
pub record IsPresetOf (g : Layout) (e : ℕ) (p : BuiltPreset) : Type 0 where
  pub number : ℕ
  pub after : e ≡ length g.settings + number
  pub there : slice_get g.presets number ≡ Some p

-- what the entry with this detail is by default, as a number, where its default byte is this one; a preset has no default
abbrev pub default_in : ℕ → Detail → Option ℕ
default_in byte (ABool bit) = Some (bit_at byte bit)
default_in byte (AnEnum last enumerators) = Some 0
default_in byte ANum = Some byte
default_in byte Preset = None

-- a default is answered for the settings, each its own, and none for anything else
pub record AnswersDefault (g : Layout) (e : ℕ) (answer : Option ℕ) : Type 0 where
  pub setting : (s : PlacedSetting) → slice_get g.settings e ≡ Some s → answer ≡ Some (default_number s.specific)
  pub other : slice_get g.settings e ≡ None → answer ≡ None

-- Where entry e is a preset of the group and there is a byte a setting byte, the answer is true, and of all bits those that the
-- preset turns on are turned on and no others change. Else it is false, and nothing changes.
pub record Applies (g : Layout) (e : ℕ) (old new : List ℕ) (answer : Bool) : Type 0 where
  pub applied : (p : BuiltPreset) → IsPresetOf g e p → length old ≡ g.settings_size → (answer ≡ true) × TurnsOnOnly g p old new
  pub no_preset : ((p : BuiltPreset) → IsPresetOf g e p → ⊥) → answer ≡ false
  pub other_size : (length old ≡ g.settings_size → ⊥) → answer ≡ false
  pub unchanged : answer ≡ false → new ≡ old
