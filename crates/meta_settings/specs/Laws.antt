-- What follows from the definitions of a group.
use Rattle.std.specs.Prelude.{◌≢◌, ◌<◌, ◌⊎◌, ℕ, List, Contains}
use Rattle.std.specs.List.{AllPairs}
use Rattle.meta_settings.specs.declared.index.PresetType.TheVariants.{BoolSetting, OtherPreset}
use Rattle.meta_settings.specs.GroupDeclaration.{PresetDeclaration}
use Rattle.meta_settings.specs.TurnedOn.{booleans_at, built_presets}

-- preset k of these turns the boolean b on
abbrev pub TurnsOn : List PresetDeclaration → ℕ → ℕ → Type 0
TurnsOn presets k b = Contains (booleans_at (built_presets presets) k) b

-- preset k, which is p, names the boolean b, or names an earlier preset that turns b on
abbrev pub IsNamedIn : List PresetDeclaration → ℕ → PresetDeclaration → ℕ → Type 0
IsNamedIn presets k p b = Contains p.args (BoolSetting b) ⊎ ((q : ℕ) × Contains p.args (OtherPreset q) × (q < k) × TurnsOn presets q b)

-- no number stands twice
abbrev pub IsEachOnce : List ℕ → Type 0
IsEachOnce numbers = AllPairs (λ a b. a ≢ b) numbers
