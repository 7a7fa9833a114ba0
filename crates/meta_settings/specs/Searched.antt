-- What the parts of the search for the first fault find.
use Rattle.std.specs.Prelude.{◌≡◌, ℕ, List, slice_get, Some}
use Rattle.meta_types.specs.FirstFault.{HasNoneBefore}
use Rattle.meta_settings.specs.GroupDeclaration.{GroupDeclaration, PresetDeclaration}
use Rattle.meta_settings.specs.GroupFaults.{GroupPosition, group_position_key, GroupHasFaultAt, AreMet}

-- nothing before the position breaks a rule
abbrev pub IsGroupCleanBefore : GroupDeclaration → GroupPosition → Type 0
IsGroupCleanBefore d p = (g : ℕ) → HasNoneBefore group_position_key (GroupHasFaultAt d g) (group_position_key p)

-- each preset names booleans below this number and earlier presets alone
abbrev pub AreAllMet : ℕ → List PresetDeclaration → Type 0
AreAllMet booleans presets = (k : ℕ) (p : PresetDeclaration) → slice_get presets k ≡ Some p → AreMet booleans k p.args
