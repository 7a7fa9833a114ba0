-- What words, types, sets and kinds of items mean after the words that the items above declare.
--     Entry                       a word that an item declares, and what it stands for
--     sense_of words w            what a word stands for
--     type_of words t             the type that a type expression means, or what is wrong with it
--     set_of words s              the set of a type variable, or what is wrong with it
--     sort_of words s             what operands of a kind are, or what is wrong with the sort
use Rattle.std.specs.Prelude.{ℕ, nat_lt, Bool, List, [], ◌∷◌, length, Option, Some, None, Result, Ok, Err, option_map, is_some}
use Rattle.std.specs.Prelude.{if◌then◌else◌}
use Rattle.std.specs.List.{find}
use Rattle.std.specs.Option.{option_or}
use Rattle.meta_types.specs.DerivedFunc.{function_of}
use Rattle.meta_types.specs.declared.derived_func.DerivedFunc.{DerivedFunc}
use Rattle.meta_typevar.specs.TypeSetParts.{TypeSetParts}
use Rattle.meta_operands.specs.EnumEntries.{EnumEntries, value_of, with_value}
use Rattle.meta_file_syntax.specs.declared.types.TypeExpr.{TypeExpr}
use Rattle.meta_file_syntax.specs.declared.types.SetExpr.{SetExpr}
use Rattle.meta_file_syntax.specs.declared.types.SetExpr.TheVariants as sets
use Rattle.meta_file_syntax.specs.declared.kinds.EnumValue.{EnumValue}
use Rattle.meta_file_syntax.specs.declared.kinds.Sort.{Sort}
use Rattle.meta_file_syntax.specs.declared.kinds.Sort.TheVariants as sorts
use Rattle.meta_file_syntax.specs.Named.{name_bytes}
use Rattle.meta_file_types.specs.Plain.{same_word, plain_type, given_kind, has_own_meaning}
use Rattle.meta_file_types.specs.Meant.{MeantType, Sense, TypeSense, KindSense, plain, is_underived, derive, kind_given}
use Rattle.meta_file_types.specs.Meant.{MeantSort, Entity, Imm, ImmEnum, VariableArgs, Value}
use Rattle.meta_file_types.specs.Sets.{wrong_parts, set_of_parts}
use Rattle.meta_file_types.specs.Telling.{◌>>=◌, found_or, unless}
use Rattle.meta_file_types.specs.declared.refused.Reason.{Reason}
use Rattle.meta_file_types.specs.declared.refused.Reason.TheVariants.{LikeDerived, Unknown, NoType, CannotDerive, TooDeep, LongName}
use Rattle.meta_file_types.specs.declared.refused.Reason.TheVariants.{ValueTwice, OwnMeaning, Declared}

-- ---- words

-- a word that items declare: the place of its item, from 0, and what it stands for
pub record Entry : Type 0 where
  pub word : List ℕ
  pub place : ℕ
  pub sense : Sense

-- the first entry of a word, of which there is at most one if nothing is wrong with the items
abbrev pub entry_of : List Entry → List ℕ → Option Entry
entry_of entries w = find (λ e. same_word w e.word) entries

-- what a word stands for: a plain type's name for that type, then a kind that is there already, then what items declare
abbrev pub sense_of : List Entry → List ℕ → Option Sense
sense_of entries w =
    option_or (option_map (λ t. TypeSense (plain t)) (plain_type w))
    (option_or (option_map (λ k. KindSense (kind_given k)) (given_kind w))
    (option_map (λ e. e.sense) (entry_of entries w)))

-- a word that an item may declare has no meaning of its own, and isn't declared above
abbrev pub declared_above : List ℕ → Option Entry → Option Reason
declared_above w None = None
declared_above w (Some e) = Some (Declared w e.place)

abbrev pub wrong_word : List Entry → List ℕ → Option Reason
wrong_word entries w = if has_own_meaning w then Some (OwnMeaning w) else declared_above w (entry_of entries w)

-- ---- types

-- the type that the sense of a word is
abbrev pub type_in : List ℕ → Option Sense → Result MeantType Reason
type_in w None = Err (Unknown w)
type_in w (Some (TypeSense m)) = Ok m
type_in w (Some (KindSense k)) = Err (NoType w)

-- the type that a word stands for
unfoldable pub type_named : List Entry → List ℕ → Result MeantType Reason
type_named entries w = type_in w (sense_of entries w)

-- the most functions that a type can have after its root, including those of the word that it begins with
abbrev pub most_functions : ℕ
most_functions = 64

-- whether a type may have one function more
abbrev pub may_be_derived_from : MeantType → Bool
may_be_derived_from m = nat_lt (length m.functions) most_functions

-- how many bytes the name of a root may have from which a type is derived
abbrev pub longest_name : ℕ
longest_name = 4096

-- whether the name of a type's root has more
abbrev pub has_long_name : MeantType → Bool
has_long_name m = nat_lt longest_name (length m.root_name)

-- what a function derives from a type whose root's name is short enough; the word w and the functions fs spell the type
abbrev pub derive_short : List ℕ → List DerivedFunc → DerivedFunc → MeantType → Result MeantType Reason
derive_short w fs f m = if has_long_name m then Err (LongName w) else found_or (CannotDerive f fs w) (derive (function_of f) m)

-- what a function derives from a type, which the word w and the functions fs spell
abbrev pub derive_at : List ℕ → List DerivedFunc → DerivedFunc → MeantType → Result MeantType Reason
derive_at w fs f m = if may_be_derived_from m then derive_short w fs f m else Err (TooDeep f w)

-- what functions derive from the type of the word w, the last one first
abbrev pub derived_from : List ℕ → List DerivedFunc → Result MeantType Reason → Result MeantType Reason
derived_from w [] m = m
derived_from w (f ∷ fs) m = derived_from w fs m >>= derive_at w fs f

-- the type that a type expression means
unfoldable pub type_of : List Entry → TypeExpr → Result MeantType Reason
type_of entries t = derived_from t.word t.functions (type_named entries t.word)

-- ---- sets

-- the set of the type that a word stands for, which isn't derived
abbrev pub root_set : List ℕ → MeantType → Result TypeSetParts Reason
root_set w m = if is_underived m then Ok m.set else Err (LikeDerived w)

-- the set of the type that a word stands for
abbrev pub set_like : List Entry → List ℕ → Result TypeSetParts Reason
set_like entries w = type_named entries w >>= root_set w

-- the set of a type variable: that of parts, or that of another
unfoldable pub set_of : List Entry → SetExpr → Result TypeSetParts Reason
set_of entries (sets.Parts parts) = unless (wrong_parts [] parts) (Ok (set_of_parts parts))
set_of entries (sets.Like w) = set_like entries w

-- ---- kinds

-- the values of an enum after others: each name once
abbrev pub values_from : EnumEntries → List EnumValue → Result EnumEntries Reason
values_from es [] = Ok es
values_from es (v ∷ vs) =
    if is_some (value_of es (name_bytes v.name)) then Err (ValueTwice v.name)
    else values_from (with_value es (name_bytes v.name) (name_bytes v.rust)) vs

-- what operands of a kind are
unfoldable pub sort_of : List Entry → Sort → Result MeantSort Reason
sort_of entries sorts.Entity = Ok Entity
sort_of entries sorts.Imm = Ok Imm
sort_of entries (sorts.ImmEnum values) = values_from [] values >>= λ es. Ok (ImmEnum es)
sort_of entries sorts.Varargs = Ok VariableArgs
sort_of entries (sorts.Value t) = type_of entries t >>= λ m. Ok (Value m)
