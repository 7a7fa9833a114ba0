-- The faults of a declared group, and the order in which they are looked for.
--     GroupHasFaultAt d g p e    the group with the number g has the fault e at the position p
--     IsFirstGroupFault d g e    e is the first fault of the group
--     IsValidGroup d             it has no fault
use Rattle.std.specs.Prelude.{◌≡◌, ◌≢◌, ◌<◌, ◌≤◌, ◌-◌, ◌⊎◌, ℕ, List, [], length, slice_get, Some, IfSome, All, unwrap_or}
use Rattle.meta_types.specs.Name.{IsName}
use Rattle.meta_types.specs.declared.fault.Place.TheVariants.{Group as AtGroup, Entry as AtEntry}
use Rattle.meta_types.specs.declared.fault.DefinitionError.{DefinitionError}
use Rattle.meta_types.specs.declared.fault.DefinitionError.TheVariants.{BadName, DuplicateName, BadEnum, BadPreset, TooManySettings}
use Rattle.meta_settings.specs.declared.index.PresetType.{PresetType}
use Rattle.meta_settings.specs.declared.index.PresetType.TheVariants.{BoolSetting, OtherPreset}
use Rattle.meta_types.specs.SharedNames.{IsDuplicate, AreDistinct}
use Rattle.meta_types.specs.FirstFault.{Key, key_at, IsFirstFound, HasNoFault}
use Rattle.meta_settings.specs.GroupDeclaration.{GroupDeclaration, Entry, entries_of, names_of_entries, entry_count, boolean_count}
use Rattle.meta_settings.specs.GroupDeclaration.{byte_count}

-- a byte that a description may have: one of 0x20 to 0x7e, but no double quote and no backslash
pub record IsPlainByte (c : ℕ) : Type 0 where
  pub least : 0x20 ≤ c
  pub most : c ≤ 0x7e
  pub no_quote : c ≢ 34
  pub no_backslash : c ≢ 92

-- the entry and its enumerators have names, and its description needs no escape
pub record IsWellNamed (e : Entry) : Type 0 where
  pub name : IsName e.name
  pub description : All IsPlainByte e.description
  pub enumerators : All IsName (unwrap_or e.values [])

-- the values of an enum: at least one, at most 256, and no two with the same name or camel case
pub record IsGoodEnum (values : List (List ℕ)) : Type 0 where
  pub some : 0 < length values
  pub few : length values ≤ 256
  pub distinct : AreDistinct values

-- what a preset names exists, if there are `booleans` booleans and `earlier` presets before it
abbrev pub IsMet : ℕ → ℕ → PresetType → Type 0
IsMet booleans earlier (BoolSetting b) = b < booleans
IsMet booleans earlier (OtherPreset q) = q < earlier

-- each of these names means something
abbrev pub AreMet : ℕ → ℕ → List PresetType → Type 0
AreMet booleans earlier args = All (IsMet booleans earlier) args

-- more than 248 booleans, more than 255 bytes or more than 65,535 entries
abbrev pub HasTooMany : GroupDeclaration → Type 0
HasTooMany d = (248 < boolean_count d) ⊎ (255 < byte_count d) ⊎ (65535 < entry_count d)

-- the rules for an entry
pub data EntryRule : Type 0 where
  EntryNameRule : EntryRule
  EntryDuplicateRule : EntryRule
  EnumRule : EntryRule
  PresetRule : EntryRule

-- their order
abbrev pub entry_rule_number : EntryRule → ℕ
entry_rule_number EntryNameRule = 0
entry_rule_number EntryDuplicateRule = 1
entry_rule_number EnumRule = 2
entry_rule_number PresetRule = 3

-- where a fault is looked for: at the group's name; at the entry of a place, by a rule; in the counts of all entries
pub data GroupPosition : Type 0 where
  OfGroupName : GroupPosition
  OfEntry : ℕ → EntryRule → GroupPosition
  OfCounts : GroupPosition

-- their order: the group's name, then entry by entry, and the counts last
abbrev pub group_position_key : GroupPosition → Key
group_position_key OfGroupName = key_at 0 0 0
group_position_key (OfEntry k rule) = key_at 1 k (entry_rule_number rule)
group_position_key OfCounts = key_at 2 0 0

-- the entry x at place k breaks the rule, and e tells of it, with the numbers of the group and of the entry
abbrev pub BreaksRule : GroupDeclaration → ℕ → ℕ → Entry → EntryRule → DefinitionError → Type 0
-- its name or one of its enumerators is no name, or its description needs an escape
BreaksRule d g k x EntryNameRule e = (e ≡ BadName (AtEntry g k)) × (IsWellNamed x → ⊥)
-- an earlier entry has the same name or the same camel case, and the first such is told
BreaksRule d g k x EntryDuplicateRule e = (j : ℕ) × (e ≡ DuplicateName (AtEntry g k) j) × IsDuplicate (names_of_entries d) k j
-- it is an enum without values, with more than 256, or with two of the same name or camel case
BreaksRule d g k x EnumRule e = (e ≡ BadEnum g k) × (IfSome x.values IsGoodEnum → ⊥)
-- it is a preset, and names a boolean that the group hasn't, or a preset that isn't earlier
BreaksRule d g k x PresetRule e = (e ≡ BadPreset g k) × (AreMet (boolean_count d) (k - length d.settings) x.args → ⊥)

-- what is at the position breaks the rule that is looked at there, and e tells of it
abbrev pub GroupHasFaultAt : GroupDeclaration → ℕ → GroupPosition → DefinitionError → Type 0
GroupHasFaultAt d g OfGroupName e = (e ≡ BadName (AtGroup g)) × (IsName d.name → ⊥)
GroupHasFaultAt d g (OfEntry k rule) e = (x : Entry) × (slice_get (entries_of d) k ≡ Some x) × BreaksRule d g k x rule e
GroupHasFaultAt d g OfCounts e = (e ≡ TooManySettings g (boolean_count d) (byte_count d) (entry_count d)) × HasTooMany d

-- e is the first fault of the group with the number g
abbrev pub IsFirstGroupFault : GroupDeclaration → ℕ → DefinitionError → Type 0
IsFirstGroupFault d g e = IsFirstFound group_position_key (GroupHasFaultAt d g) e

-- the group breaks no rule, whatever its number is
abbrev pub IsValidGroup : GroupDeclaration → Type 0
IsValidGroup d = (g : ℕ) → HasNoFault (GroupHasFaultAt d g)
