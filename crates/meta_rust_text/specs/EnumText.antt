-- The enums of the settings of a group. An enum goes by the camel case of its setting's name in Rust source, and so does a value of it.
--     variant_text v                the variant of a value
--     member_text v                 its place in the list of all values
--     shown_text v, read_text v     the arms by which it is shown and read
--     enum_text group name values   the enum of the setting `group.name` with these values
--     enum_types_text g             the enums of a group
use Rattle.std.specs.Prelude.{ℕ, List, [], ◌∷◌, ◌++◌, codes}
use Rattle.std.specs.List.{flat_map}
use Rattle.meta_types.specs.CamelCase.{camel_case_of}
use Rattle.meta_text.specs.Lines.{at, lines_onto, text_of}
use Rattle.meta_settings.specs.declared.setting.SpecificSetting.{SpecificSetting}
use Rattle.meta_settings.specs.declared.setting.SpecificSetting.TheVariants.{Bool, Enum, Num}
use Rattle.meta_settings.specs.Layout.{Layout}

-- the variant: its documentation names the value
unfoldable pub variant_text : List ℕ → List ℕ
variant_text value = text_of (at 1 (codes "/// `" ∷ value ∷ codes "`." ∷ []) ∷ at 1 (camel_case_of value ∷ codes "," ∷ []) ∷ [])

-- the member of the list of all values: `Self::SpeedAndSize,`
unfoldable pub member_text : List ℕ → List ℕ
member_text value = text_of (at 3 (codes "Self::" ∷ camel_case_of value ∷ codes "," ∷ []) ∷ [])

-- the arm by which the value is shown: `Self::SpeedAndSize => "speed_and_size",`
unfoldable pub shown_text : List ℕ → List ℕ
shown_text value = text_of (at 3 (codes "Self::" ∷ camel_case_of value ∷ codes " => \"" ∷ value ∷ codes "\"," ∷ []) ∷ [])

-- the arm by which the value is read: `"speed_and_size" => Ok(Self::SpeedAndSize),`
unfoldable pub read_text : List ℕ → List ℕ
read_text value = text_of (at 3 (codes "\"" ∷ value ∷ codes "\" => Ok(Self::" ∷ camel_case_of value ∷ codes ")," ∷ []) ∷ [])

-- the enum of the setting `group.name`: its variants, the function `all`, which gives all values, and how it is displayed and parsed; a
-- text that isn't the name of a value gives no value
unfoldable pub enum_text : List ℕ → List ℕ → List (List ℕ) → List ℕ
enum_text group name values =
    lines_onto (
    at 0 (codes "/// Values for `" ∷ group ∷ codes "." ∷ name ∷ codes "`." ∷ [])
    ∷ at 0 (codes "#[derive(Debug, Copy, Clone, PartialEq, Eq, Hash)]" ∷ [])
    ∷ at 0 (codes "pub enum " ∷ camel_case_of name ∷ codes " {" ∷ []) ∷ [])
    (flat_map variant_text values ++ lines_onto (
    at 0 (codes "}" ∷ [])
    ∷ at 0 (codes "impl " ∷ camel_case_of name ∷ codes " {" ∷ [])
    ∷ at 1 (codes "/// Returns a slice with all possible [" ∷ camel_case_of name ∷ codes "] values." ∷ [])
    ∷ at 1 (codes "pub fn all() -> &'static [" ∷ camel_case_of name ∷ codes "] {" ∷ [])
    ∷ at 2 (codes "&[" ∷ []) ∷ [])
    (flat_map member_text values ++ lines_onto (
    at 2 (codes "]" ∷ [])
    ∷ at 1 (codes "}" ∷ [])
    ∷ at 0 (codes "}" ∷ [])
    ∷ at 0 (codes "impl fmt::Display for " ∷ camel_case_of name ∷ codes " {" ∷ [])
    ∷ at 1 (codes "fn fmt(&self, f: &mut fmt::Formatter) -> fmt::Result {" ∷ [])
    ∷ at 2 (codes "f.write_str(match *self {" ∷ []) ∷ [])
    (flat_map shown_text values ++ lines_onto (
    at 2 (codes "}" ∷ [])
    ∷ at 2 (codes ")" ∷ [])
    ∷ at 1 (codes "}" ∷ [])
    ∷ at 0 (codes "}" ∷ [])
    ∷ at 0 (codes "impl core::str::FromStr for " ∷ camel_case_of name ∷ codes " {" ∷ [])
    ∷ at 1 (codes "type Err = ();" ∷ [])
    ∷ at 1 (codes "fn from_str(s: &str) -> Result<Self, Self::Err> {" ∷ [])
    ∷ at 2 (codes "match s {" ∷ []) ∷ [])
    (flat_map read_text values ++ text_of (
    at 3 (codes "_ => Err(())," ∷ [])
    ∷ at 2 (codes "}" ∷ [])
    ∷ at 1 (codes "}" ∷ [])
    ∷ at 0 (codes "}" ∷ []) ∷ [])))))

-- the enum of the setting `group.name`, and no text if the setting is a boolean or a number
abbrev pub enum_of : List ℕ → List ℕ → SpecificSetting → List ℕ
enum_of group name (Bool b) = []
enum_of group name (Enum values) = enum_text group name values
enum_of group name (Num default) = []

abbrev pub enum_types_text : Layout → List ℕ
enum_types_text g = flat_map (λ s. enum_of g.name s.name s.specific) g.settings
