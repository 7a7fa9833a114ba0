-- The default bytes of a group.
--     joined_at byte settings      the defaults of the settings in a byte, joined
--     AreDefaultsOf g defaults     the default bytes of the group
use Rattle.std.specs.Prelude.{ℕ, ◌≡◌, ◌==◌, ◌<◌, Bool, List, length, filter, fold, slice_get, Some, if◌then◌else◌}
use Rattle.std.specs.Int.{bit_at}
use Rattle.std.specs.Int.RustNames.{bit_or}
use Rattle.meta_settings.specs.declared.setting.SpecificSetting.{SpecificSetting}
use Rattle.meta_settings.specs.declared.setting.SpecificSetting.TheVariants.{Bool as ABool, Enum as AnEnum, Num as ANum}
use Rattle.meta_settings.specs.Layout.{PlacedSetting, Layout, default_byte_of}

-- whether the setting stands in the byte
abbrev pub is_in_byte : ℕ → PlacedSetting → Bool
is_in_byte byte s = s.byte_offset == byte

-- what the settings in the byte give to the default bytes, joined
abbrev pub joined_at : ℕ → List PlacedSetting → ℕ
joined_at byte settings = fold (λ joined s. bit_or joined (default_byte_of s)) 0 (filter (is_in_byte byte) settings)

-- what a setting is by default, as a number: 0 or 1 for a boolean, the first value of an enum, the number itself
abbrev pub default_number : SpecificSetting → ℕ
default_number (ABool b) = if b.default then 1 else 0
default_number (AnEnum values) = 0
default_number (ANum default) = default

-- the byte holds the default of a setting: a boolean's in its bit, and that of an enum or a number as a whole
abbrev pub HoldsDefault : ℕ → SpecificSetting → Type 0
HoldsDefault byte (ABool b) = bit_at byte b.bit_offset ≡ default_number (ABool b)
HoldsDefault byte (AnEnum values) = byte ≡ default_number (AnEnum values)
HoldsDefault byte (ANum default) = byte ≡ default_number (ANum default)

-- the bytes hold the default of the setting, in its byte
pub record HoldsDefaultOf (defaults : List ℕ) (s : PlacedSetting) : Type 0 where
  pub byte : ℕ
  pub there : slice_get defaults s.byte_offset ≡ Some byte
  pub holds : HoldsDefault byte s.specific

-- there is one byte a setting byte, and it is what the settings in it give, joined, and nothing else; so each setting's default
-- is held
pub record AreDefaultsOf (g : Layout) (defaults : List ℕ) : Type 0 where
  pub size : length defaults ≡ g.settings_size
  pub joined : (byte : ℕ) → byte < g.settings_size → slice_get defaults byte ≡ Some (joined_at byte g.settings)
  pub hold : (k : ℕ) (s : PlacedSetting) → slice_get g.settings k ≡ Some s → HoldsDefaultOf defaults s
