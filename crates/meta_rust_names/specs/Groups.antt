-- The names of groups of settings.
--     group_refused at      those of a group that are refused
use Rattle.std.specs.Prelude.{ℕ, Bool, ◌||◌, List, [], ◌++◌, Option, None, Some, if◌then◌else◌, codes}
use Rattle.std.specs.List.{flat_map, enumerate_from}
use Rattle.meta_types.specs.CamelCase.{camel_case_of}
use Rattle.meta_types.specs.declared.fault.Place.{Place}
use Rattle.meta_types.specs.declared.fault.Place.TheVariants.{Group}
use Rattle.meta_operands.specs.Texts.{same_text}
use Rattle.meta_settings.specs.Layout.{PlacedSetting, Layout}
use Rattle.meta_settings.specs.declared.setting.SpecificSetting.{SpecificSetting}
use Rattle.meta_settings.specs.declared.setting.SpecificSetting.TheVariants.{Bool as ABool, Enum, Num}
use Rattle.meta_rust_names.specs.declared.refused.Why.{Why}
use Rattle.meta_rust_names.specs.declared.refused.Why.TheVariants.{Keyword, InScope, SelfType, ErrType, TypeBeside, FixedMethod, FixedLocal}
use Rattle.meta_rust_names.specs.declared.refused.Part.TheVariants.{Name, Setting, SettingType, Value}
use Rattle.meta_rust_names.specs.declared.refused.RefusedName.{RefusedName}
use Rattle.meta_rust_names.specs.Refused.{refused}
use Rattle.meta_rust_names.specs.Words.{is_keyword, is_prelude_variant}

-- ---- the group's own name, that of a variable

-- the statics of its tables, in scope beside its flags
unfoldable pub is_table_static : List ℕ → Bool
is_table_static name =
    same_text name (codes "ENUMERATORS")
    || (same_text name (codes "DESCRIPTORS")
    || (same_text name (codes "HASH_TABLE")
    || (same_text name (codes "PRESETS")
    || same_text name (codes "TEMPLATE"))))

unfoldable pub group_name_why : List ℕ → Option Why
group_name_why name =
    if is_keyword name then Some Keyword
    else (if is_prelude_variant name then Some InScope
    else (if is_table_static name then Some InScope
    else (if same_text name (codes "bvec") then Some FixedLocal
    else None)))

-- ---- a setting, which is a method of `Flags`

unfoldable pub is_flags_method : List ℕ → Bool
is_flags_method name =
    same_text name (codes "new")
    || (same_text name (codes "iter")
    || (same_text name (codes "hash_key")
    || same_text name (codes "numbered_predicate")))

unfoldable pub setting_name_why : List ℕ → Option Why
setting_name_why name =
    if is_keyword name then Some Keyword
    else (if is_flags_method name then Some FixedMethod
    else None)

-- ---- an enum, which is a type in camel case, and its values, which are variants in camel case

-- the types that the text writes or names without a path
unfoldable pub is_type_beside : List ℕ → Bool
is_type_beside camel =
    same_text camel (codes "Flags")
    || (same_text camel (codes "Value")
    || (same_text camel (codes "Builder")
    || (same_text camel (codes "Result")
    || same_text camel (codes "Iterator"))))

unfoldable pub enum_name_why : List ℕ → Option Why
enum_name_why camel =
    if same_text camel (codes "Self") then Some SelfType
    else (if is_type_beside camel then Some TypeBeside
    else None)

unfoldable pub value_why : List ℕ → Option Why
value_why camel =
    if same_text camel (codes "Self") then Some SelfType
    else (if same_text camel (codes "Err") then Some ErrType
    else None)

unfoldable pub value_refused : Place → ℕ → ℕ × List ℕ → List RefusedName
value_refused place setting at = refused place (Value setting at.0) (value_why (camel_case_of at.1))

unfoldable pub values_refused : Place → ℕ → List (List ℕ) → List RefusedName
values_refused place setting values = flat_map (value_refused place setting) (enumerate_from 0 values)

unfoldable pub enum_refused : Place → ℕ → List ℕ → List (List ℕ) → List RefusedName
enum_refused place setting name values =
    refused place (SettingType setting) (enum_name_why (camel_case_of name)) ++ values_refused place setting values

abbrev pub specific_refused : Place → ℕ → List ℕ → SpecificSetting → List RefusedName
specific_refused place setting name (ABool b) = []
specific_refused place setting name (Enum values) = enum_refused place setting name values
specific_refused place setting name (Num default) = []

-- ---- all of a group

unfoldable pub setting_refused : Place → ℕ × PlacedSetting → List RefusedName
setting_refused place at =
    refused place (Setting at.0) (setting_name_why at.1.name) ++ specific_refused place at.0 at.1.name at.1.specific

unfoldable pub settings_refused : Place → List PlacedSetting → List RefusedName
settings_refused place settings = flat_map (setting_refused place) (enumerate_from 0 settings)

-- the group with this number
unfoldable pub group_refused : ℕ × Layout → List RefusedName
group_refused at = refused (Group at.0) Name (group_name_why at.1.name) ++ settings_refused (Group at.0) at.1.settings

unfoldable pub groups_refused : List Layout → List RefusedName
groups_refused groups = flat_map group_refused (enumerate_from 0 groups)
