-- What the builder of groups sees to in each group that it builds.
use Rattle.std.specs.Prelude.{ℕ, ◌≡◌, ◌+◌, ◌/◌, ◌%◌, ◌<◌, ◌≤◌, List, length, slice_get, Some, All}
use Rattle.meta_types.specs.Name.{IsName}
use Rattle.meta_types.specs.SharedNames.{AreDistinct}
use Rattle.meta_settings.specs.GroupFaults.{IsPlainByte, IsGoodEnum}
use Rattle.meta_settings.specs.declared.setting.BoolSetting.{BoolSetting}
use Rattle.meta_settings.specs.declared.setting.SpecificSetting.TheVariants.{Bool as ABool, Enum as AnEnum}
use Rattle.meta_settings.specs.Layout.{PlacedSetting, BuiltPreset, Layout, booleans_in}
use Rattle.meta_settings.specs.PresetLayout.{HasAll}
use Rattle.meta_setting_tables.specs.FoundSetting.{entry_names, laid_entry_count}

-- the setting is an enum or a number, in this byte
pub record HasByte (s : PlacedSetting) (byte : ℕ) : Type 0 where
  pub byte_is : s.byte_offset ≡ byte
  pub no_boolean : (b : BoolSetting) → s.specific ≡ ABool b → ⊥

-- the setting is a boolean, at this bit of this byte
pub record HasBit (s : PlacedSetting) (byte bit : ℕ) : Type 0 where
  pub boolean : BoolSetting
  pub is_boolean : s.specific ≡ ABool boolean
  pub byte_is : s.byte_offset ≡ byte
  pub bit_is : boolean.bit_offset ≡ bit

-- at most 256 values, which 8 bits can number, and at least one
pub record HaveNumbers (values : List (List ℕ)) : Type 0 where
  pub some : 0 < length values
  pub few : length values ≤ 256

-- it has a name, and its description needs no escape
pub record IsDescribed (name description : List ℕ) : Type 0 where
  pub is_name : IsName name
  pub is_plain : All IsPlainByte description

-- the values of an enum: there is one, at most 256, they have names, and no two have the same name or the same camel case
pub record AreValues (values : List (List ℕ)) : Type 0 where
  pub good : IsGoodEnum values
  pub names : All IsName values

-- The entries can be numbered in 16 bits, and they and the group have names, of which no two entries share one; enums and numbers
-- have a byte each, and booleans, eight to a byte, a bit each; an enum has values; and each preset turns on booleans of the group
-- alone.
pub record IsBuiltLayout (g : Layout) : Type 0 where
  pub name : IsName g.name
  pub few : laid_entry_count g ≤ 65535
  pub settings : (k : ℕ) (s : PlacedSetting) → slice_get g.settings k ≡ Some s → IsDescribed s.name s.description
  pub described_presets : (k : ℕ) (p : BuiltPreset) → slice_get g.presets k ≡ Some p → IsDescribed p.name p.description
  pub distinct : AreDistinct (entry_names g)
  pub bytes : (k : ℕ) (s : PlacedSetting) → k < g.bool_start_byte_offset → slice_get g.settings k ≡ Some s → HasByte s k
  pub bits : (k : ℕ) (s : PlacedSetting) → slice_get (booleans_in g) k ≡ Some s → HasBit s (g.bool_start_byte_offset + k / 8) (k % 8)
  pub enums : (k : ℕ) (s : PlacedSetting) (values : List (List ℕ)) → slice_get g.settings k ≡ Some s → s.specific ≡ AnEnum values
      → AreValues values
  pub presets : (k : ℕ) (p : BuiltPreset) → slice_get g.presets k ≡ Some p → HasAll g p
