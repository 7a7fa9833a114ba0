-- What presets turn on.
use Rattle.std.specs.Prelude.{ℕ, ◌==◌, not, List, [], ◌∷◌, ◌++◌, unwrap_or, option_map, slice_get, flat_map}
use Rattle.std.specs.List.{filter}
use Rattle.meta_settings.specs.declared.index.PresetType.{PresetType}
use Rattle.meta_settings.specs.declared.index.PresetType.TheVariants.{BoolSetting, OtherPreset}
use Rattle.meta_settings.specs.GroupDeclaration.{PresetDeclaration}
use Rattle.meta_settings.specs.Layout.{BuiltPreset}

-- the numbers, each once, where it first stands
abbrev pub firsts : List ℕ → List ℕ
firsts [] = []
firsts (n ∷ ns) = n ∷ filter (λ m. not (m == n)) (firsts ns)

-- the booleans that preset q turns on
abbrev pub booleans_at : List BuiltPreset → ℕ → List ℕ
booleans_at presets q = unwrap_or (option_map (λ p. p.booleans) (slice_get presets q)) []

-- the booleans that a name stands for: a boolean itself, or all that an earlier preset turns on, in their order
abbrev pub meant_by : List BuiltPreset → PresetType → List ℕ
meant_by earlier (BoolSetting b) = b ∷ []
meant_by earlier (OtherPreset q) = booleans_at earlier q

-- what a preset turns on: the booleans that its names stand for, each once, in the order in which they are first named
abbrev pub turned_on : List BuiltPreset → List PresetType → List ℕ
turned_on earlier args = firsts (flat_map (meant_by earlier) args)

-- a preset that is declared after these, with what it turns on
abbrev pub built_preset : List BuiltPreset → PresetDeclaration → BuiltPreset
built_preset earlier p = record { name = p.name; description = p.description; booleans = turned_on earlier p.args }

-- the earlier presets, and after them some declared presets with what they turn on
abbrev pub presets_after : List BuiltPreset → List PresetDeclaration → List BuiltPreset
presets_after earlier [] = earlier
presets_after earlier (p ∷ ps) = presets_after (earlier ++ built_preset earlier p ∷ []) ps

-- the presets of a group, in order of declaration
abbrev pub built_presets : List PresetDeclaration → List BuiltPreset
built_presets presets = presets_after [] presets
