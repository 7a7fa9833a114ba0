-- The layout of a declared group.
--     laid_out d      its settings with their places
--     built_of d      the whole group: its layout, and what its presets turn on
use Rattle.std.specs.Prelude.{ℕ, ◌+◌, ◌/◌, ◌%◌, List, [], ◌∷◌, ◌++◌}
use Rattle.meta_settings.specs.declared.proto.ProtoSpecificSetting.{ProtoSpecificSetting}
use Rattle.meta_settings.specs.declared.proto.ProtoSpecificSetting.TheVariants.{Bool as ABool, Enum as AnEnum, Num as ANum}
use Rattle.meta_settings.specs.declared.setting.SpecificSetting.{SpecificSetting}
use Rattle.meta_settings.specs.declared.setting.SpecificSetting.TheVariants.{Bool, Enum, Num}
use Rattle.meta_settings.specs.GroupDeclaration.{SettingDeclaration, GroupDeclaration, booleans_among, others_among, start_of, byte_count}
use Rattle.meta_settings.specs.Layout.{PlacedSetting, Layout}
use Rattle.meta_settings.specs.TurnedOn.{built_presets}

-- what a setting is with its place, where it is boolean k if it is a boolean: bit k % 8 of its byte
abbrev pub placed_specific : ℕ → ProtoSpecificSetting → SpecificSetting
placed_specific k (ABool default) = Bool (record { default = default; bit_offset = k % 8; predicate_number = k })
placed_specific k (AnEnum values) = Enum values
placed_specific k (ANum default) = Num default

-- the setting in this byte, as boolean k if it is a boolean
abbrev pub placed_at : SettingDeclaration → ℕ → ℕ → PlacedSetting
placed_at s byte k = record {
  name = s.name;
  description = s.description;
  comment = s.comment;
  specific = placed_specific k s.specific;
  byte_offset = byte;
}

-- enums and numbers, each in a byte of its own, from this byte on
abbrev pub in_bytes : ℕ → List SettingDeclaration → List PlacedSetting
in_bytes byte [] = []
in_bytes byte (s ∷ ss) = placed_at s byte 0 ∷ in_bytes (byte + 1) ss

-- booleans from boolean k on, where boolean 0 is bit 0 of the byte start: boolean k has byte start + k / 8 and bit k % 8
abbrev pub in_bits : ℕ → ℕ → List SettingDeclaration → List PlacedSetting
in_bits start k [] = []
in_bits start k (s ∷ ss) = placed_at s (start + k / 8) k ∷ in_bits start (k + 1) ss

-- enums and numbers come first, one byte each, then booleans, eight to a byte; each in order of declaration
abbrev pub laid_out : GroupDeclaration → List PlacedSetting
laid_out d = in_bytes 0 (others_among d.settings) ++ in_bits (start_of d) 0 (booleans_among d.settings)

-- the group as it is built: with its layout, and what its presets turn on
abbrev pub built_of : GroupDeclaration → Layout
built_of d = record {
  name = d.name;
  settings = laid_out d;
  bool_start_byte_offset = start_of d;
  settings_size = byte_count d;
  presets = built_presets d.presets;
}
