-- What types and kinds are, whichever numbers a registry gives them.
--     MeantType              a root, its name, the functions that derive a type from it, and the coded set
--     derive f m             what f derives from m, where it can
--     MeantKind              a kind of operand
--     Sense                  what a word stands for: a type, or a kind
use Rattle.std.specs.Prelude.{ℕ, Bool, true, false, List, [], ◌∷◌, ◌++◌, Option, Some, None, codes, if◌then◌else◌}
use Rattle.meta_types.specs.Function.{Function}
use Rattle.meta_types.specs.TypeParts.{TypeParts, name_of}
use Rattle.meta_typevar.specs.TypeSetParts.{TypeSetParts}
use Rattle.meta_typevar.specs.Image.{image_of, can_derive}
use Rattle.meta_operands.specs.EnumEntries.{EnumEntries}
use Rattle.meta_file_types.specs.declared.given.GivenKind.{GivenKind}
use Rattle.meta_file_types.specs.declared.given.GivenKind.TheVariants as given
use Rattle.meta_file_types.specs.Plain.{set_of_one}

-- ---- types

-- what a type is derived from: the type variable that the k-th `type` item with a set declares, from 0, or a plain type
pub data Root : Type 0 where
  Declared : (k : ℕ) → Root
  Plain : (t : TypeParts) → Root

-- a type: its root, the name of that, the functions that derive it from there, from the root outwards, and its coded set
pub record MeantType : Type 0 where
  pub root : Root
  pub root_name : List ℕ
  pub functions : List Function
  pub set : TypeSetParts

-- a root itself
abbrev pub root_type : Root → List ℕ → TypeSetParts → MeantType
root_type root name set = record { root = root; root_name = name; functions = []; set = set }

-- what the word of a plain type means: a root whose set has the type alone
abbrev pub plain : TypeParts → MeantType
plain t = root_type (Plain t) (name_of t) (set_of_one t)

-- whether it is a root
abbrev pub is_underived : MeantType → Bool
is_underived m = has_none m.functions
  where
    has_none : List Function → Bool
    has_none [] = true
    has_none (f ∷ fs) = false

-- what is derived by the function
abbrev pub derived_by : Function → MeantType → MeantType
derived_by f m = record { root = m.root; root_name = m.root_name; functions = m.functions ++ f ∷ []; set = image_of f m.set }

-- the same, where the coded set allows it
abbrev pub derive : Function → MeantType → Option MeantType
derive f m = if can_derive f m.set then Some (derived_by f m) else None

-- ---- kinds

-- what operands of a kind are. An enum has its names in the order of their bytes, each with its name in Rust
pub data MeantSort : Type 0 where
  Entity : MeantSort
  Imm : MeantSort
  ImmEnum : (values : EnumEntries) → MeantSort
  VariableArgs : MeantSort
  Value : (m : MeantType) → MeantSort

-- a kind: the name of its field, its Rust type, what it is, and its documentation
pub record MeantKind : Type 0 where
  pub field : List ℕ
  pub rust : List ℕ
  pub sort : MeantSort
  pub doc : List ℕ

-- the three that are there before any item
abbrev pub kind_given : GivenKind → MeantKind
kind_given given.Block = record {
  field = codes "block";
  rust = codes "ir::BlockCall";
  sort = Entity;
  doc = codes "a basic block in the same function, with its arguments provided.";
}
kind_given given.RawBlock = record {
  field = codes "raw_block";
  rust = codes "ir::Block";
  sort = Entity;
  doc = codes "a basic block in the same function, with no arguments provided.";
}
kind_given given.Varargs = record {
  field = [];
  rust = codes "&[Value]";
  sort = VariableArgs;
  doc = codes "A variable size list of `value` operands.";
}

-- ---- words

pub data Sense : Type 0 where
  TypeSense : (m : MeantType) → Sense
  KindSense : (k : MeantKind) → Sense

-- ---- type variables

-- a type variable that an item declares: the name that is shown, its documentation, and its set
pub record MeantRoot : Type 0 where
  pub name : List ℕ
  pub doc : List ℕ
  pub set : TypeSetParts
