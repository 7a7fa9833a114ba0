-- What a builder of a group does with what it is given.
use Rattle.std.specs.Prelude.{◌≡◌, ℕ, ◌+◌, ◌<◌, ◌^◌, List, ◌++◌, ◌∷◌, [], length}
use Rattle.meta_settings.specs.GroupDeclaration.{SettingDeclaration, PresetDeclaration, GroupDeclaration, booleans_among}

-- the group with one more setting, with one more preset
abbrev pub with_setting : GroupDeclaration → SettingDeclaration → GroupDeclaration
with_setting d s = record d { settings = d.settings ++ s ∷ [] }

abbrev pub with_preset : GroupDeclaration → PresetDeclaration → GroupDeclaration
with_preset d p = record d { presets = d.presets ++ p ∷ [] }

-- fewer than 2^32 settings and presets together, of which `booleans` are booleans
pub record IsCounted (settings : List SettingDeclaration) (presets : List PresetDeclaration) (booleans : ℕ) : Type 0 where
  pub few : length settings + length presets < 2 ^ 32
  pub are_booleans : booleans ≡ length (booleans_among settings)
