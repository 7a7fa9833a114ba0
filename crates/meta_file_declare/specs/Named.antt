-- What a name in a preset stands for.
use Rattle.std.specs.Prelude.{◌==◌, ℕ, List, Option, Some, None}
use Rattle.std.specs.List.{position, filter_map}
use Rattle.std.specs.Cmp.Lexicographic.{pointwise}
use Rattle.meta_file_syntax.specs.declared.items.Item.{Item}
use Rattle.meta_file_syntax.specs.declared.items.Item.TheVariants as item
use Rattle.meta_file_syntax.specs.Named.{name_bytes}
use Rattle.meta_settings.specs.declared.index.PresetType.{PresetType}
use Rattle.meta_settings.specs.declared.index.PresetType.TheVariants.{BoolSetting, OtherPreset}

-- the names that stand for something: those of the booleans of a group, and those of its presets, each in order
pub record Known : Type 0 where
  pub booleans : List (List ℕ)
  pub presets : List (List ℕ)

-- the name of the boolean that an item declares, if it declares one, and that of the preset
abbrev pub boolean_declared : Item → Option (List ℕ)
boolean_declared (item.Group n) = None
boolean_declared (item.Type i) = None
boolean_declared (item.Alias i) = None
boolean_declared (item.Kind i) = None
boolean_declared (item.Format i) = None
boolean_declared (item.Inst i) = None
boolean_declared (item.Bool i) = Some (name_bytes i.name)
boolean_declared (item.Num i) = None
boolean_declared (item.Enum i) = None
boolean_declared (item.Preset i) = None

abbrev pub preset_declared : Item → Option (List ℕ)
preset_declared (item.Group n) = None
preset_declared (item.Type i) = None
preset_declared (item.Alias i) = None
preset_declared (item.Kind i) = None
preset_declared (item.Format i) = None
preset_declared (item.Inst i) = None
preset_declared (item.Bool i) = None
preset_declared (item.Num i) = None
preset_declared (item.Enum i) = None
preset_declared (item.Preset i) = Some (name_bytes i.name)

-- the names that stand for something below these entries of a group
abbrev pub known_below : List Item → Known
known_below entries = record { booleans = filter_map boolean_declared entries; presets = filter_map preset_declared entries }

-- the first place at which the name stands
abbrev pub first_place : List (List ℕ) → List ℕ → Option ℕ
first_place names name = position (λ n. pointwise ◌==◌ n name) names

-- the boolean at this place, or else the preset at that one
abbrev pub meant_at : Option ℕ → Option ℕ → Option PresetType
meant_at (Some k) p = Some (BoolSetting k)
meant_at None (Some k) = Some (OtherPreset k)
meant_at None None = None

-- what a name stands for: the first boolean of the name, by its place among the booleans of the group, or if there is no such boolean the
-- first preset, by its place among the presets
abbrev pub meant : Known → List ℕ → Option PresetType
meant known name = meant_at (first_place known.booleans name) (first_place known.presets name)
