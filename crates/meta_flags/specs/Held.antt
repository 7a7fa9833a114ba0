-- The values of a `Flags`, as contracts see them.
use Rattle.std.specs.Prelude.{◌≡◌, ◌↔◌, ◌<◌, ◌≤◌, ℕ, false, List, [], length, slice_get, Option, Some, Result, Ok, Err}
use Rattle.std.specs.Option.{option_map, option_map_or}
use Rattle.meta_setting_tables.specs.declared.descriptor.Descriptor.{Descriptor}
use Rattle.meta_setting_tables.specs.GroupTables.{GroupContents}
use Rattle.meta_setting_tables.specs.WellFormed.{is_preset}
use Rattle.meta_flags.specs.Served.{SettingValue, BoolValue, NumValue, EnumValue, Served, State, kind_in, served_in}
use Rattle.meta_flags.specs.Changes.{CanHave}
use Rattle.meta_flags.specs.declared.flag_value.FlagValue.{FlagValue}
use Rattle.meta_flags.specs.declared.flag_value.FlagValue.TheVariants.{Bool, Num, Enum}
use Rattle.meta_flags.specs.declared.flag_error.FlagError.{FlagError}

-- the value
abbrev pub value_of : FlagValue → SettingValue
value_of (Bool b) = BoolValue b
value_of (Num n) = NumValue n
value_of (Enum text) = EnumValue text.now

-- an answer, by its value
abbrev pub got : Result FlagValue FlagError → Result SettingValue FlagError
got (Ok v) = Ok (value_of v)
got (Err e) = Err e

-- the tables of the group, and the values of its settings
pub record FlagContents : Type 0 where
  pub group : GroupContents
  pub state : State

-- the first n entries are the settings, and the others are presets
abbrev pub AreSettings : List Descriptor → ℕ → Type 0
AreSettings entries count = (e : ℕ) (d : Descriptor) → slice_get entries e ≡ Some d → ((is_preset d.detail ≡ false) ↔ (e < count))

-- each value is one that its setting can have
abbrev pub AreOfKinds : GroupContents → State → Type 0
AreOfKinds t state = (e : ℕ) (d : Descriptor) (v : SettingValue) → slice_get t.descriptors e ≡ Some d → slice_get state e ≡ Some v
    → CanHave (kind_in t d.offset d.detail) v

-- there is one value for each setting, in order, and each is one that its setting can have
pub record AreHeld (f : FlagContents) : Type 0 where
  pub within : length f.state ≤ length f.group.descriptors
  pub settings : AreSettings f.group.descriptors (length f.state)
  pub kinds : AreOfKinds f.group f.state

-- what is served, and the values; if there is no group, nothing is served, and there are no values
abbrev pub served_by : Option FlagContents → Option Served
served_by o = option_map (λ (f : FlagContents). served_in f.group) o

abbrev pub state_of : Option FlagContents → State
state_of o = option_map_or (λ (f : FlagContents). f.state) o []
