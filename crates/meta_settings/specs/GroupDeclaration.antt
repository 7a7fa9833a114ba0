-- A group of settings as it is declared.
use Rattle.std.specs.Prelude.{ℕ, ◌+◌, ◌/◌, Bool, true, false, not, List, ◌++◌, [], Option, Some, None, map, length}
use Rattle.std.specs.List.{filter}
use Rattle.meta_settings.specs.declared.index.PresetType.{PresetType}
use Rattle.meta_settings.specs.declared.proto.ProtoSpecificSetting.{ProtoSpecificSetting}
use Rattle.meta_settings.specs.declared.proto.ProtoSpecificSetting.TheVariants.{Bool as ABool, Enum as AnEnum, Num as ANum}

-- a setting: its texts, and what it is, with its default or its values
pub record SettingDeclaration : Type 0 where
  pub name : List ℕ
  pub description : List ℕ
  pub comment : List ℕ
  pub specific : ProtoSpecificSetting

-- a preset: its texts, and the booleans and the presets that it names
pub record PresetDeclaration : Type 0 where
  pub name : List ℕ
  pub description : List ℕ
  pub args : List PresetType

-- a group: its name, its settings and its presets, each in order of declaration
pub record GroupDeclaration : Type 0 where
  pub name : List ℕ
  pub settings : List SettingDeclaration
  pub presets : List PresetDeclaration

-- whether it is a boolean; the others have a byte of their own
abbrev pub is_bool_specific : ProtoSpecificSetting → Bool
is_bool_specific (ABool default) = true
is_bool_specific (AnEnum values) = false
is_bool_specific (ANum default) = false

abbrev pub is_bool : SettingDeclaration → Bool
is_bool s = is_bool_specific s.specific

abbrev pub has_own_byte : SettingDeclaration → Bool
has_own_byte s = not (is_bool s)

-- the booleans among some settings, and the enums and numbers, which have a byte of their own; each in order
abbrev pub booleans_among : List SettingDeclaration → List SettingDeclaration
booleans_among settings = filter is_bool settings

abbrev pub others_among : List SettingDeclaration → List SettingDeclaration
others_among settings = filter has_own_byte settings

-- how many booleans a group has
abbrev pub boolean_count : GroupDeclaration → ℕ
boolean_count d = length (booleans_among d.settings)

-- how many enums and numbers it has: the bytes before the first boolean
abbrev pub start_of : GroupDeclaration → ℕ
start_of d = length (others_among d.settings)

-- how many bytes its settings take: one for each enum and number, and one for each eight booleans or part of eight
abbrev pub byte_count : GroupDeclaration → ℕ
byte_count d = start_of d + (boolean_count d + 7) / 8

-- what the rules look at in an entry: its texts, its values if it is an enum, and what it names if it is a preset
pub record Entry : Type 0 where
  pub name : List ℕ
  pub description : List ℕ
  pub values : Option (List (List ℕ))
  pub args : List PresetType

-- the values of an enum, and none of another setting
abbrev pub values_of : ProtoSpecificSetting → Option (List (List ℕ))
values_of (ABool default) = None
values_of (AnEnum values) = Some values
values_of (ANum default) = None

-- a setting as an entry, and a preset as one
abbrev pub setting_entry : SettingDeclaration → Entry
setting_entry s = record { name = s.name; description = s.description; values = values_of s.specific; args = [] }

abbrev pub preset_entry : PresetDeclaration → Entry
preset_entry p = record { name = p.name; description = p.description; values = None; args = p.args }

-- the entries of a group: its settings in order of declaration, then its presets
abbrev pub entries_of : GroupDeclaration → List Entry
entries_of d = map setting_entry d.settings ++ map preset_entry d.presets

-- how many settings and presets it has
abbrev pub entry_count : GroupDeclaration → ℕ
entry_count d = length d.settings + length d.presets

-- the names of the entries
abbrev pub names_of_entries : GroupDeclaration → List (List ℕ)
names_of_entries d = map (λ e. e.name) (entries_of d)
