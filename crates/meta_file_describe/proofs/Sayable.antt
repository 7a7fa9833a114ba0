-- A layout of a group of which items can be made that declare it.
use Rattle.std.proofs.Common.{◌≡◌, ℕ, ◌<◌, Bool, true, false, List, [], All, Some, length, take, slice_get}
use Rattle.std.specs.Str.{IsUtf8}
use Rattle.meta_types.specs.Name.{IsName}
use Rattle.meta_settings.specs.declared.setting.SpecificSetting.{SpecificSetting}
use Rattle.meta_settings.specs.declared.setting.SpecificSetting.TheVariants as specific
use Rattle.meta_settings.specs.GroupFaults.{IsPlainByte}
use Rattle.meta_settings.specs.Layout.{PlacedSetting, BuiltPreset, Layout, booleans_in}

-- whether it is a boolean
abbrev pub is_boolean : SpecificSetting → Bool
is_boolean (specific.Bool b) = true
is_boolean (specific.Enum values) = false
is_boolean (specific.Num default) = false

-- the names of an enum's values, and none of another setting
abbrev pub values_in : SpecificSetting → List (List ℕ)
values_in (specific.Bool b) = []
values_in (specific.Enum values) = values
values_in (specific.Num default) = []

-- a setting has a name, and so has each value, its description needs no escape, and its comment is a text
pub record IsSayableSetting (s : PlacedSetting) : Type 0 where
  pub name : IsName s.name
  pub description : All IsPlainByte s.description
  pub values : All IsName (values_in s.specific)
  pub comment : IsUtf8 s.comment

-- a preset has a name, its description needs no escape, and each boolean that it turns on exists, under this count
pub record IsSayablePreset (booleans : ℕ) (p : BuiltPreset) : Type 0 where
  pub name : IsName p.name
  pub description : All IsPlainByte p.description
  pub there : All (λ b. b < booleans) p.booleans

-- no two of these have one name
abbrev pub AreNamedApart : List PlacedSetting → Type 0
AreNamedApart settings = (i j : ℕ) (a b : PlacedSetting) → slice_get settings i ≡ Some a → slice_get settings j ≡ Some b
    → a.name ≡ b.name → i ≡ j

-- its settings and its presets can be said, no two booleans have one name, and the booleans come after the other settings
pub record IsSayable (g : Layout) : Type 0 where
  pub name : IsName g.name
  pub settings : All IsSayableSetting g.settings
  pub presets : All (IsSayablePreset (length (booleans_in g))) g.presets
  pub apart : AreNamedApart (booleans_in g)
  pub others : All (λ s. is_boolean s.specific ≡ false) (take g.bool_start_byte_offset g.settings)
  pub booleans : All (λ s. is_boolean s.specific ≡ true) (booleans_in g)
