-- What a service of settings serves, and its values.
--     served_in t      what it serves by the tables of a group
--     served_of g      what it serves by the layout of a declared group
--     initial g        the values at the beginning: the declared defaults
use Rattle.std.specs.Prelude.{ℕ, Bool, not, List, [], ◌∷◌, ◌++◌, map, slice_index_or, length}
use Rattle.std.specs.List.{filter, flat_map}
use Rattle.meta_settings.specs.declared.setting.SpecificSetting.{SpecificSetting}
use Rattle.meta_settings.specs.declared.setting.SpecificSetting.TheVariants.{Bool as ABool, Enum as AnEnum, Num as ANum}
use Rattle.meta_settings.specs.Layout.{PlacedSetting, BuiltPreset, Layout}
use Rattle.meta_setting_tables.specs.declared.descriptor.Detail.{Detail}
use Rattle.meta_setting_tables.specs.declared.descriptor.Detail.TheVariants.{Bool as BoolDetail, Enum as EnumDetail, Num as NumDetail}
use Rattle.meta_setting_tables.specs.declared.descriptor.Detail.TheVariants.{Preset as PresetDetail}
use Rattle.meta_setting_tables.specs.declared.descriptor.Descriptor.{Descriptor}
use Rattle.meta_setting_tables.specs.EntryValues.{values_in, is_on, masks_from, is_one_of}
use Rattle.meta_setting_tables.specs.GroupTables.{GroupContents}
use Rattle.meta_setting_tables.specs.WellFormed.{is_preset}

-- what a setting holds: a truth value, a number, or one of the values of an enum
pub data SettingValue : Type 0 where
  BoolValue : Bool → SettingValue
  NumValue : ℕ → SettingValue
  EnumValue : List ℕ → SettingValue

-- What an entry is: a boolean or a number with its default, an enum with its values, or a preset, with a mark for each setting of the
-- group, in order, which says whether the preset turns it on.
pub data EntryKind : Type 0 where
  BoolKind : Bool → EntryKind
  NumKind : ℕ → EntryKind
  EnumKind : List (List ℕ) → EntryKind
  PresetKind : List Bool → EntryKind

-- an entry, by its name
pub record ServedEntry : Type 0 where
  pub name : List ℕ
  pub kind : EntryKind

-- a group: its name and its entries, the settings before the presets
pub record Served : Type 0 where
  pub name : List ℕ
  pub entries : List ServedEntry

-- the values of the settings, in order of the entries
abbrev pub State : Type 0
State = List SettingValue

-- ---- the values at the beginning

-- the default of an entry; a preset has none, and that of an enum is its first value
abbrev pub default_of : EntryKind → List SettingValue
default_of (BoolKind default) = BoolValue default ∷ []
default_of (NumKind default) = NumValue default ∷ []
default_of (EnumKind values) = EnumValue (slice_index_or values 0 []) ∷ []
default_of (PresetKind marks) = []

-- the defaults of the settings
abbrev pub initial : Served → State
initial g = flat_map (λ (e : ServedEntry). default_of e.kind) g.entries

-- ---- by the layout of a declared group

-- a setting is of the kind that its group lays out, under its name
abbrev pub kind_of_setting : SpecificSetting → EntryKind
kind_of_setting (ABool b) = BoolKind b.default
kind_of_setting (AnEnum values) = EnumKind values
kind_of_setting (ANum default) = NumKind default

abbrev pub served_setting : PlacedSetting → ServedEntry
served_setting s = record { name = s.name; kind = kind_of_setting s.specific }

-- a preset marks the booleans that it turns on, by itself or by the presets that it names
abbrev pub served_preset : Layout → BuiltPreset → ServedEntry
served_preset g p = record { name = p.name; kind = PresetKind (map (λ (s : PlacedSetting). is_one_of p.booleans s.specific) g.settings) }

-- a group has its settings, and then its presets
abbrev pub served_of : Layout → Served
served_of g = record { name = g.name; entries = map served_setting g.settings ++ map (served_preset g) g.presets }

-- ---- by the tables of a group

-- the entries that are settings
abbrev pub settings_in : List Descriptor → List Descriptor
settings_in entries = filter (λ (d : Descriptor). not (is_preset d.detail)) entries

-- for each setting, whether the preset with this offset turns it on
abbrev pub marks_in : GroupContents → ℕ → List Bool
marks_in t offset = map (λ (d : Descriptor). is_on (masks_from (length t.defaults) t.preset_masks offset) d.offset
    d.detail) (settings_in t.descriptors)

-- the entry with this offset and this detail
abbrev pub kind_in : GroupContents → ℕ → Detail → EntryKind
kind_in t offset (BoolDetail bit) = BoolKind (is_on t.defaults offset (BoolDetail bit))
kind_in t offset (EnumDetail last place) = EnumKind (values_in t.enumerators (EnumDetail last place))
kind_in t offset NumDetail = NumKind (slice_index_or t.defaults offset 0)
kind_in t offset PresetDetail = PresetKind (marks_in t offset)

abbrev pub served_entry : GroupContents → Descriptor → ServedEntry
served_entry t d = record { name = d.name; kind = kind_in t d.offset d.detail }

abbrev pub served_in : GroupContents → Served
served_in t = record { name = t.name; entries = map (served_entry t) t.descriptors }
