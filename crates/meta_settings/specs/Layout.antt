-- Where the settings of a group stand: the settings layout.
use Rattle.std.specs.Prelude.{◌≡◌, ℕ, ◌+◌, ◌/◌, ◌^◌, ◌≤◌, List, length, drop, if◌then◌else◌}
use Rattle.meta_settings.specs.declared.setting.SpecificSetting.{SpecificSetting}
use Rattle.meta_settings.specs.declared.setting.SpecificSetting.TheVariants.{Bool, Enum, Num}

-- a setting with its place: its texts, what it is, and its byte. A boolean also has its bit in the byte and its number among
-- the booleans
pub record PlacedSetting : Type 0 where
  pub name : List ℕ
  pub description : List ℕ
  pub comment : List ℕ
  pub specific : SpecificSetting
  pub byte_offset : ℕ

-- a preset with the numbers of the booleans that it turns on
pub record BuiltPreset : Type 0 where
  pub name : List ℕ
  pub description : List ℕ
  pub booleans : List ℕ

-- A group with its layout. The enums and numbers stand first among its settings, and the booleans after them, from that byte on.
pub record Layout : Type 0 where
  pub name : List ℕ
  pub settings : List PlacedSetting
  pub bool_start_byte_offset : ℕ
  pub settings_size : ℕ
  pub presets : List BuiltPreset

-- its booleans, in order of their numbers: each enum and number has one byte, and the booleans come after these
abbrev pub booleans_in : Layout → List PlacedSetting
booleans_in g = drop g.bool_start_byte_offset g.settings

-- the settings take the bytes of a group that has at most 248 booleans: they begin at start, and fill the bytes up to size
pub record IsSized (settings : List PlacedSetting) (start size : ℕ) : Type 0 where
  pub within : start ≤ length settings
  pub few : length (drop start settings) ≤ 248
  pub bytes : size ≡ start + (length (drop start settings) + 7) / 8

-- the byte that a setting gives to the default bytes: a true boolean its bit, a false one 0, an enum 0, a number its default
abbrev pub specific_default : SpecificSetting → ℕ
specific_default (Bool b) = if b.default then 2 ^ b.bit_offset else 0
specific_default (Enum values) = 0
specific_default (Num default) = default

-- the same of a setting with its place
abbrev pub default_byte_of : PlacedSetting → ℕ
default_byte_of s = specific_default s.specific
