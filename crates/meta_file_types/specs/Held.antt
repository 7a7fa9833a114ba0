-- What is kept of the items so far.
--     registered t s         the registry, where these are declared and mentioned
--     Holds t s              what is kept is what is declared and mentioned
use Rattle.std.specs.Prelude.{◌≡◌, ℕ, List, [], Option, Some, None, Result, Ok, Err, Contains}
use Rattle.std.specs.BTreeMap.{get_by}
use Rattle.std.specs.Global.{Vec}
use Rattle.std.specs.Cmp.Lexicographic.{slice_cmp}
use Rattle.std.specs.Ordering.{nat_cmp}
use Rattle.meta_types.specs.TypeParts.{TypeParts}
use Rattle.meta_types.specs.ValueTypes.{type_parts_of}
use Rattle.meta_typevar.specs.declared.content.TypeVarContent.{TypeVarContent}
use Rattle.meta_operands.specs.declared.kind.OperandKind.{OperandKind}
use Rattle.meta_file_types.specs.declared.refused.Reason.TheVariants.{NoType}
use Rattle.meta_file_types.specs.declared.refused.ItemError.{ItemError}
use Rattle.meta_file_types.specs.declared.refused.ItemError.TheVariants.{Wrong}
use Rattle.meta_file_types.specs.declared.words.Word.{Word}
use Rattle.meta_file_types.specs.declared.words.Meaning.{Meaning}
use Rattle.meta_file_types.specs.declared.words.Meaning.TheVariants as meanings
use Rattle.meta_file_types.specs.declared.words.Words.{Words}
use Rattle.meta_file_types.specs.declared.types.Types.{Types}
use Rattle.meta_file_types.specs.declared.plain.PlainRoot.{PlainRoot}
use Rattle.meta_file_types.specs.Meant.{Sense, TypeSense, KindSense, Plain, MeantType, MeantRoot}
use Rattle.meta_file_types.specs.Symbols.{symbol}
use Rattle.meta_file_types.specs.Words.{Entry, entry_of}
use Rattle.meta_file_types.specs.Said.{Said, mentioning}
use Rattle.meta_file_types.specs.Registered.{Registered, IsNumberOf, IsRegistryOf, IsTypeIn, IsKindIn}

-- the registry, where these are declared and mentioned
abbrev pub registered : Types → Said → Registered
registered t s = record { vars = t.vars; symbols = s.symbols }

-- the variables of the registry
abbrev pub vars_in : Types → List TypeVarContent
vars_in t = t.vars

-- the plain type t has the number n
pub record StandsFor (plain : List PlainRoot) (t : TypeParts) (n : ℕ) : Type 0 where
  pub entry : PlainRoot
  pub among : Contains plain entry
  pub type_is : type_parts_of entry.value_type ≡ t
  pub number_is : entry.variable ≡ n

-- what is kept of a word, if anything is
abbrev pub word_at : Words → List ℕ → Option Word
word_at words w = get_by (λ (k : Vec ℕ). slice_cmp nat_cmp w k.items) words.map

-- the type that it is
abbrev pub type_kept : List ℕ → Meaning → Result ℕ ItemError
type_kept w (meanings.Type n) = Ok n
type_kept w (meanings.Kind kind) = Err (Wrong (NoType w))

-- the kind that it is, if it is one
abbrev pub kind_kept : Meaning → Option OperandKind
kind_kept (meanings.Type n) = None
kind_kept (meanings.Kind kind) = Some kind

-- what a word stands for is what is meant
abbrev pub IsMeaningIn : Registered → Sense → Meaning → Type 0
IsMeaningIn r (TypeSense m) (meanings.Type n) = IsTypeIn r m n
IsMeaningIn r (TypeSense m) (meanings.Kind kind) = ⊥
IsMeaningIn r (KindSense k) (meanings.Type n) = ⊥
IsMeaningIn r (KindSense k) (meanings.Kind kind) = IsKindIn r k kind

pub record IsEntryIn (r : Registered) (e : Entry) (w : Word) : Type 0 where
  pub place : w.place ≡ e.place
  pub meaning : IsMeaningIn r e.sense w.meaning

-- a word is kept exactly where it is declared, with what it stands for
abbrev pub IsWordIn : Registered → Option Entry → Option Word → Type 0
IsWordIn r None None = Unit {0}
IsWordIn r None (Some w) = ⊥
IsWordIn r (Some e) None = ⊥
IsWordIn r (Some e) (Some w) = IsEntryIn r e w

-- the plain types that have a variable are those whose symbols have a number, and it is theirs
pub record ArePlain (r : Registered) (plain : List PlainRoot) : Type 0 where
  pub numbered : (t : TypeParts) (n : ℕ) → StandsFor plain t n → IsNumberOf r (symbol (Plain t) []) n
  pub kept : (t : TypeParts) (n : ℕ) → IsNumberOf r (symbol (Plain t) []) n → StandsFor plain t n

-- the registry has what is mentioned, and each word stands for what is meant, where items declare these type variables and words
pub record HoldsIn (r : Registered) (plain : List PlainRoot) (words : Words) (roots : List MeantRoot) (entries : List Entry) : Type 0 where
  pub registry : IsRegistryOf r roots
  pub plain_are : ArePlain r plain
  pub words_are : (w : List ℕ) → IsWordIn r (entry_of entries w) (word_at words w)

-- what is kept is what is declared and mentioned
abbrev pub Holds : Types → Said → Type 0
Holds t s = HoldsIn (registered t s) t.plain.items t.words s.roots s.words

-- the type m is mentioned after what is declared, and has the number n
pub record IsMentioned (t : Types) (s : Said) (m : MeantType) (n : ℕ) : Type 0 where
  pub holds : Holds t (mentioning s (Ok m))
  pub type_is : IsTypeIn (registered t (mentioning s (Ok m))) m n
