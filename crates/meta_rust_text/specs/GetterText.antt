-- The getters of the settings of a group.
--     arms_text ty byte values     the arms by which the bytes from `byte` on give these values of the enum `ty`
--     getter_text s                the getter of a setting
--     getters_text g               the getters of a group
use Rattle.std.specs.Prelude.{ℕ, ◌+◌, List, [], ◌∷◌, ◌++◌, codes}
use Rattle.std.specs.List.{flat_map}
use Rattle.std.specs.Fmt.{decimal}
use Rattle.std.specs.Str.{trim}
use Rattle.meta_types.specs.CamelCase.{camel_case_of}
use Rattle.meta_text.specs.Lines.{at, lines_onto, text_of}
use Rattle.meta_settings.specs.declared.setting.SpecificSetting.{SpecificSetting}
use Rattle.meta_settings.specs.declared.setting.SpecificSetting.TheVariants.{Bool, Enum, Num}
use Rattle.meta_settings.specs.Layout.{PlacedSetting, Layout}

-- the arm by which a byte gives a value of an enum: `2 => OptLevel::SpeedAndSize,`
unfoldable pub arm_text : List ℕ → ℕ → List ℕ → List ℕ
arm_text ty byte value = text_of (at 3 (decimal byte ∷ codes " => " ∷ ty ∷ codes "::" ∷ camel_case_of value ∷ codes "," ∷ []) ∷ [])

-- the arms by which the bytes from this one on give these values, in order
abbrev pub arms_text : List ℕ → ℕ → List (List ℕ) → List ℕ
arms_text ty byte [] = []
arms_text ty byte (value ∷ values) = arm_text ty byte value ++ arms_text ty (byte + 1) values

-- the getter of the boolean of this number: it asks for the boolean by its number
unfoldable pub bool_getter : List ℕ → List ℕ → ℕ → List ℕ
bool_getter doc name number = text_of (
    at 1 (codes "/// " ∷ doc ∷ [])
    ∷ at 1 (codes "pub fn " ∷ name ∷ codes "(&self) -> bool {" ∷ [])
    ∷ at 2 (codes "self.numbered_predicate(" ∷ decimal number ∷ codes ")" ∷ [])
    ∷ at 1 (codes "}" ∷ []) ∷ [])

-- the getter of the number in this byte
unfoldable pub number_getter : List ℕ → List ℕ → ℕ → List ℕ
number_getter doc name byte = text_of (
    at 1 (codes "/// " ∷ doc ∷ [])
    ∷ at 1 (codes "pub fn " ∷ name ∷ codes "(&self) -> u8 {" ∷ [])
    ∷ at 2 (codes "self.bytes[" ∷ decimal byte ∷ codes "]" ∷ [])
    ∷ at 1 (codes "}" ∷ []) ∷ [])

-- the getter of the enum in this byte: the bytes from 0 on give its values, and for any other byte the getter panics
unfoldable pub enum_getter : List ℕ → List ℕ → ℕ → List (List ℕ) → List ℕ
enum_getter doc name byte values =
    lines_onto (
    at 1 (codes "/// " ∷ doc ∷ [])
    ∷ at 1 (codes "pub fn " ∷ name ∷ codes "(&self) -> " ∷ camel_case_of name ∷ codes " {" ∷ [])
    ∷ at 2 (codes "match self.bytes[" ∷ decimal byte ∷ codes "] {" ∷ []) ∷ [])
    (arms_text (camel_case_of name) 0 values ++ text_of (
    at 3 (codes "_ => panic!(\"Invalid enum value\")," ∷ [])
    ∷ at 2 (codes "}" ∷ [])
    ∷ at 1 (codes "}" ∷ []) ∷ []))

-- the getter of a setting of this name in this byte, by the kind of the setting
abbrev pub getter_of : List ℕ → List ℕ → ℕ → SpecificSetting → List ℕ
getter_of doc name byte (Bool b) = bool_getter doc name b.predicate_number
getter_of doc name byte (Enum values) = enum_getter doc name byte values
getter_of doc name byte (Num default) = number_getter doc name byte

-- the getter of a setting: its documentation is the description, without white space at both ends
unfoldable pub getter_text : PlacedSetting → List ℕ
getter_text s = getter_of (trim s.description) s.name s.byte_offset s.specific

-- the getter of booleans by their numbers, eight to a byte from this byte on
unfoldable pub predicate_text : ℕ → List ℕ
predicate_text start = text_of (
    at 1 (codes "/// Dynamic numbered predicate getter." ∷ [])
    ∷ at 1 (codes "fn numbered_predicate(&self, p: usize) -> bool {" ∷ [])
    ∷ at 2 (codes "self.bytes[" ∷ decimal start ∷ codes " + p / 8] & (1 << (p % 8)) != 0" ∷ [])
    ∷ at 1 (codes "}" ∷ []) ∷ [])

-- the same if there are settings, and no text if there are none
abbrev pub predicate_of : ℕ → List PlacedSetting → List ℕ
predicate_of start [] = []
predicate_of start (s ∷ ss) = predicate_text start

-- the getter by numbers, and those of the settings, in order
unfoldable pub getters_text : Layout → List ℕ
getters_text g =
    lines_onto (
    at 0 (codes "/// User-defined settings." ∷ [])
    ∷ at 0 (codes "#[allow(dead_code, reason = \"generated code\")]" ∷ [])
    ∷ at 0 (codes "impl Flags {" ∷ []) ∷ [])
    (predicate_of g.bool_start_byte_offset g.settings ++ (flat_map getter_text g.settings ++ text_of (at 0 (codes "}" ∷ []) ∷ [])))
