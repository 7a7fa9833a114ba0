-- The templates, filled, are the lines of the definitions.
use Rattle.std.proofs.Common.{◌≡◌, ℕ, List, [], ◌∷◌, refl, map}
use Rattle.std.proofs.lemmas.Grind.{common_steps}
use Rattle.std.specs.List.{flat_map}
use Rattle.std.specs.Fmt.{decimal}
use Rattle.meta_types.specs.CamelCase.{camel_case_of}
use Rattle.meta_text.specs.Filled.{filled}
use Rattle.meta_settings.specs.Layout.{Layout}
use Rattle.meta_rust_text.specs.declared.enum_types.TheConstants.{ENUM, ENUM_HOLES, VARIANT, MEMBER, SHOWN, READ, VALUE_HOLES}
use Rattle.meta_rust_text.specs.declared.flags.TheConstants.{FLAGS, FLAGS_HOLES, FLAGS_USED, FLAGS_USED_HOLES}
use Rattle.meta_rust_text.specs.declared.getters.TheConstants.{GETTERS, GETTERS_HOLES, PREDICATE, PREDICATE_HOLES, ARM, ARM_HOLES}
use Rattle.meta_rust_text.specs.declared.getters.TheConstants.{BOOL_GETTER, BOOL_GETTER_HOLES, NUMBER_GETTER, NUMBER_GETTER_HOLES}
use Rattle.meta_rust_text.specs.declared.getters.TheConstants.{ENUM_GETTER, ENUM_GETTER_HOLES}
use Rattle.meta_rust_text.specs.EnumText.{variant_text, member_text, shown_text, read_text, enum_text}
use Rattle.meta_rust_text.specs.FlagsText.{flags_text, flags_used_text}
use Rattle.meta_rust_text.specs.GetterText.{arm_text, arms_text, bool_getter, number_getter, enum_getter, getter_text, predicate_text}
use Rattle.meta_rust_text.specs.GetterText.{predicate_of, getters_text}

-- ---- flags

pub flags_same : (name arguments : List ℕ) (size : ℕ)
    → filled FLAGS.now (map (λ h. h.now) FLAGS_HOLES) (name ∷ arguments ∷ decimal size ∷ []) ≡ flags_text name arguments size
unfolding filled flags_text
flags_same name arguments size = refl

pub flags_used_same : (name : List ℕ) → filled FLAGS_USED.now (map (λ h. h.now) FLAGS_USED_HOLES) (name ∷ []) ≡ flags_used_text name
unfolding filled flags_used_text
flags_used_same name = refl

-- ---- enums

-- the lines of a value, which goes by the camel case of its name in Rust source
abbrev pub value_filled : List ℕ → List ℕ → List ℕ
value_filled lines value = filled lines (map (λ h. h.now) VALUE_HOLES) (value ∷ camel_case_of value ∷ [])

pub enum_same : (group name : List ℕ) (values : List (List ℕ)) → filled ENUM.now (map (λ h. h.now) ENUM_HOLES) (
    group ∷ name ∷ camel_case_of name ∷ flat_map (value_filled VARIANT.now) values ∷ flat_map (value_filled MEMBER.now) values
    ∷ flat_map (value_filled SHOWN.now) values ∷ flat_map (value_filled READ.now) values ∷ []) ≡ enum_text group name values
unfolding filled enum_text variant_text member_text shown_text read_text
enum_same group name values = refl

-- ---- getters

pub arm_same : (ty value : List ℕ) (byte : ℕ)
    → filled ARM.now (map (λ h. h.now) ARM_HOLES) (decimal byte ∷ ty ∷ camel_case_of value ∷ []) ≡ arm_text ty byte value
unfolding filled arm_text
arm_same ty value byte = refl

pub ruleset arm_steps = (common_steps, arm_same)

pub bool_same : (doc name : List ℕ) (number : ℕ)
    → filled BOOL_GETTER.now (map (λ h. h.now) BOOL_GETTER_HOLES) (doc ∷ name ∷ decimal number ∷ []) ≡ bool_getter doc name number
unfolding filled bool_getter
bool_same doc name number = refl

pub number_same : (doc name : List ℕ) (byte : ℕ)
    → filled NUMBER_GETTER.now (map (λ h. h.now) NUMBER_GETTER_HOLES) (doc ∷ name ∷ decimal byte ∷ []) ≡ number_getter doc name byte
unfolding filled number_getter
number_same doc name byte = refl

pub enum_getter_same : (doc name : List ℕ) (byte : ℕ) (values : List (List ℕ))
    → filled ENUM_GETTER.now (map (λ h. h.now) ENUM_GETTER_HOLES)
    (doc ∷ name ∷ camel_case_of name ∷ decimal byte ∷ arms_text (camel_case_of name) 0 values ∷ []) ≡ enum_getter doc name byte values
unfolding filled enum_getter
enum_getter_same doc name byte values = refl

pub ruleset getter_steps = (bool_same, number_same, enum_getter_same)

pub predicate_same : (start : ℕ) → filled PREDICATE.now (map (λ h. h.now) PREDICATE_HOLES) (decimal start ∷ []) ≡ predicate_text start
unfolding filled predicate_text
predicate_same start = refl

pub getters_same : (g : Layout) → filled GETTERS.now (map (λ h. h.now) GETTERS_HOLES)
    (predicate_of g.bool_start_byte_offset g.settings ∷ flat_map getter_text g.settings ∷ []) ≡ getters_text g
unfolding filled getters_text
getters_same g = refl
