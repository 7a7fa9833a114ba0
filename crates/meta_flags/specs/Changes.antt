-- What a service does to its values, and what it answers.
--     Sets, Enables, Gets      what the requests of these names do
use Rattle.std.specs.Prelude.{◌≡◌, ◌≢◌, ◌⊎◌, ℕ, ◌<◌, Bool, true, false, List, [], ◌∷◌, slice_get, slice_set, Contains, Some, Result, Ok}
use Rattle.std.specs.Prelude.{Err, codes, if◌then◌else◌}
use Rattle.std.specs.Fmt.{decimal}
use Rattle.meta_flags.specs.Served.{SettingValue, BoolValue, NumValue, EnumValue, EntryKind, BoolKind, NumKind, EnumKind, PresetKind}
use Rattle.meta_flags.specs.Served.{ServedEntry, Served, State}
use Rattle.meta_flags.specs.declared.flag_error.FlagError.{FlagError}
use Rattle.meta_flags.specs.declared.flag_error.FlagError.TheVariants.{Unknown, Kind, Value}

-- no entry has the name
abbrev pub HasNone : Served → List ℕ → Type 0
HasNone g name = (e : ℕ) (entry : ServedEntry) → slice_get g.entries e ≡ Some entry → entry.name ≢ name

-- entry e, the first that has the name, is of this kind
pub record IsNamedEntry (g : Served) (name : List ℕ) (e : ℕ) (kind : EntryKind) : Type 0 where
  pub at : slice_get g.entries e ≡ Some (record { name = name; kind = kind })
  pub first : (j : ℕ) (entry : ServedEntry) → j < e → slice_get g.entries j ≡ Some entry → entry.name ≢ name

-- the kind is a preset's
abbrev pub IsPresetKind : EntryKind → Type 0
IsPresetKind kind = (marks : List Bool) × (kind ≡ PresetKind marks)

-- the text writes the value, one that a setting of this kind may have: `true` or `false`, a decimal number without leading zeros from
-- 0 to 255, or one of the values of the enum
abbrev pub IsText : EntryKind → List ℕ → SettingValue → Type 0
IsText (BoolKind default) text v = ((text ≡ codes "true") × (v ≡ BoolValue true)) ⊎ ((text ≡ codes "false") × (v ≡ BoolValue false))
IsText (NumKind default) text v = (n : ℕ) × (n < 256) × (text ≡ decimal n) × (v ≡ NumValue n)
IsText (EnumKind values) text v = Contains values text × (v ≡ EnumValue text)
IsText (PresetKind marks) text v = ⊥

-- a setting of this kind can have the value: a boolean either truth value, a number one from 0 to 255, and an enum one of its values
abbrev pub CanHave : EntryKind → SettingValue → Type 0
CanHave (BoolKind default) v = (b : Bool) × (v ≡ BoolValue b)
CanHave (NumKind default) v = (n : ℕ) × (n < 256) × (v ≡ NumValue n)
CanHave (EnumKind values) v = (text : List ℕ) × Contains values text × (v ≡ EnumValue text)
CanHave (PresetKind marks) v = ⊥

-- the setting of the name has the value that is written, and the other values are as before
pub record IsSet (g : Served) (name text : List ℕ) (old new : State) : Type 0 where
  pub place : ℕ
  pub kind : EntryKind
  pub entry : IsNamedEntry g name place kind
  pub value : SettingValue
  pub is_text : IsText kind text value
  pub changed : new ≡ slice_set old place value

-- the entry of the name is a preset
pub record IsOfPreset (g : Served) (name : List ℕ) : Type 0 where
  pub place : ℕ
  pub kind : EntryKind
  pub entry : IsNamedEntry g name place kind
  pub is_preset : IsPresetKind kind

-- the entry of the name is a setting, and the text writes no value of its kind
pub record IsNoValue (g : Served) (name text : List ℕ) : Type 0 where
  pub place : ℕ
  pub kind : EntryKind
  pub entry : IsNamedEntry g name place kind
  pub setting : IsPresetKind kind → ⊥
  pub none : (v : SettingValue) → IsText kind text v → ⊥

-- the setting of the name gets the value that is written; or else nothing changes, since no entry has the name, it is a preset's, or the
-- text writes no value of the setting
abbrev pub Sets : Served → List ℕ → List ℕ → State → Result (Unit {0}) FlagError → State → Type 0
Sets g name text old (Ok done) new = IsSet g name text old new
Sets g name text old (Err Unknown) new = HasNone g name × (new ≡ old)
Sets g name text old (Err Kind) new = IsOfPreset g name × (new ≡ old)
Sets g name text old (Err Value) new = IsNoValue g name text × (new ≡ old)

-- the values with each marked setting true
abbrev pub with_marked_true : List Bool → State → State
with_marked_true [] state = state
with_marked_true (mark ∷ marks) [] = []
with_marked_true (mark ∷ marks) (v ∷ vs) = (if mark then BoolValue true else v) ∷ with_marked_true marks vs

-- the values after the entry of this kind at e is enabled: a boolean is true, and for a preset the booleans that it marks are
abbrev pub IsEnabled : EntryKind → ℕ → State → State → Type 0
IsEnabled (BoolKind default) e old new = new ≡ slice_set old e (BoolValue true)
IsEnabled (NumKind default) e old new = ⊥
IsEnabled (EnumKind values) e old new = ⊥
IsEnabled (PresetKind marks) e old new = new ≡ with_marked_true marks old

-- the entry is a number or an enum
abbrev pub IsNoSwitch : EntryKind → Type 0
IsNoSwitch kind = ((default : ℕ) × (kind ≡ NumKind default)) ⊎ ((values : List (List ℕ)) × (kind ≡ EnumKind values))

pub record Enabled (g : Served) (name : List ℕ) (old new : State) : Type 0 where
  pub place : ℕ
  pub kind : EntryKind
  pub entry : IsNamedEntry g name place kind
  pub changed : IsEnabled kind place old new

pub record IsOfNoSwitch (g : Served) (name : List ℕ) : Type 0 where
  pub place : ℕ
  pub kind : EntryKind
  pub entry : IsNamedEntry g name place kind
  pub no_switch : IsNoSwitch kind

-- the boolean of the name, or each that the preset of the name marks, becomes true; or else nothing changes, since no entry has the name,
-- or it is a number's or an enum's
abbrev pub Enables : Served → List ℕ → State → Result (Unit {0}) FlagError → State → Type 0
Enables g name old (Ok done) new = Enabled g name old new
Enables g name old (Err Unknown) new = HasNone g name × (new ≡ old)
Enables g name old (Err Kind) new = IsOfNoSwitch g name × (new ≡ old)
Enables g name old (Err Value) new = ⊥

-- the setting of the name has the value
pub record HasValue (g : Served) (name : List ℕ) (state : State) (v : SettingValue) : Type 0 where
  pub place : ℕ
  pub kind : EntryKind
  pub entry : IsNamedEntry g name place kind
  pub setting : IsPresetKind kind → ⊥
  pub there : slice_get state place ≡ Some v

abbrev pub Gets : Served → List ℕ → State → Result SettingValue FlagError → Type 0
Gets g name state (Ok v) = HasValue g name state v
Gets g name state (Err Unknown) = HasNone g name
Gets g name state (Err Kind) = IsOfPreset g name
Gets g name state (Err Value) = ⊥
