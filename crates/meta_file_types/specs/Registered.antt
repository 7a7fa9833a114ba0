-- A registry of type variables, and the numbers that it has for what is meant.
--     Registered             the variables of a registry, and the symbols that they stand for, each by its number
--     IsRegistryOf r roots   each variable is the one of its symbol, no symbol stands twice, and the roots have what items declare
--     IsTypeIn r m n         the type has the number n
--     IsKindIn r k kind      the kind is what is meant
use Rattle.std.specs.Prelude.{◌≡◌, ◌<◌, ℕ, List, [], ◌∷◌, ◌++◌, length, slice_get, Some}
use Rattle.meta_types.specs.Function.{Function}
use Rattle.meta_types.specs.DerivedFunc.{function_of}
use Rattle.meta_types.specs.TypeParts.{name_of}
use Rattle.meta_types.specs.TypeText.{type_doc}
use Rattle.meta_types.specs.declared.derived_func.DerivedFunc.{DerivedFunc}
use Rattle.meta_typevar.specs.Registry.{variable_at, coded_at, root_content, IsKept, IsDerivation}
use Rattle.meta_typevar.specs.declared.content.TypeVarContent.{TypeVarContent}
use Rattle.meta_operands.specs.Kind.{doc_of_kind}
use Rattle.meta_operands.specs.declared.kind.OperandKind.{OperandKind}
use Rattle.meta_operands.specs.declared.kind.OperandKindFields.{OperandKindFields}
use Rattle.meta_operands.specs.declared.kind.OperandKindFields.TheVariants as fields
use Rattle.meta_file_types.specs.Meant.{Root, Declared, Plain, MeantType, MeantSort, Entity, Imm, ImmEnum, VariableArgs, Value, MeantKind}
use Rattle.meta_file_types.specs.Meant.{MeantRoot}
use Rattle.meta_file_types.specs.Plain.{set_of_one}
use Rattle.meta_file_types.specs.Symbols.{Symbol, symbol, symbol_of}
use Rattle.meta_file_types.specs.Depth.{root_name_at}

-- the variables of a registry, and what each stands for, by its number
pub record Registered : Type 0 where
  pub vars : List TypeVarContent
  pub symbols : List Symbol

-- the symbol has the number n
abbrev pub IsNumberOf : Registered → Symbol → ℕ → Type 0
IsNumberOf r s n = slice_get r.symbols n ≡ Some s

-- ---- what is kept of variables

-- what is kept of the k-th type variable that an item declares, which has the number n, is its name, its documentation and its set
pub record IsDeclaredAt (vars : List TypeVarContent) (roots : List MeantRoot) (k n : ℕ) : Type 0 where
  pub root : MeantRoot
  pub at : slice_get roots k ≡ Some root
  pub kept : IsKept vars n (root_content root.name root.doc root.set n)

-- what is kept of a root that has the number n; of a plain type it is what stands for the type
abbrev pub IsRootAt : List TypeVarContent → List MeantRoot → Root → ℕ → Type 0
IsRootAt vars roots (Declared k) n = IsDeclaredAt vars roots k n
IsRootAt vars roots (Plain t) n = IsKept vars n (root_content (name_of t) (type_doc t) (set_of_one t) n)

-- what is kept of a variable with the number n is what the last of its functions derives from what the others derive
pub record IsDerivedAt (r : Registered) (s : Symbol) (n : ℕ) : Type 0 where
  pub before : List Function
  pub last : DerivedFunc
  pub parent : ℕ
  pub content : TypeVarContent
  pub functions : s.functions ≡ before ++ function_of last ∷ []
  pub parent_is : IsNumberOf r (symbol s.root before) parent
  pub derived : IsDerivation r.vars parent last content
  pub kept : IsKept r.vars n content

-- what is kept of the variable with the number n is that of the root to which these functions are applied
abbrev pub IsVariableAt : Registered → List MeantRoot → Symbol → List Function → ℕ → Type 0
IsVariableAt r roots s [] n = IsRootAt r.vars roots s.root n
IsVariableAt r roots s (f ∷ fs) n = IsDerivedAt r s n

-- each number has a symbol of its own, and what is kept of its variable is what the symbol says, where items declare these type variables
pub record IsRegistryOf (r : Registered) (roots : List MeantRoot) : Type 0 where
  pub count : length r.vars ≡ length r.symbols
  pub apart : (s : Symbol) (n m : ℕ) → IsNumberOf r s n → IsNumberOf r s m → n ≡ m
  pub variables : (s : Symbol) (n : ℕ) → IsNumberOf r s n → IsVariableAt r roots s s.functions n

-- ---- types

-- the type m has the number n, under which there is a variable with a root that has the root's name of m, and with the set of m
pub record IsTypeIn (r : Registered) (m : MeantType) (n : ℕ) : Type 0 where
  pub number : IsNumberOf r (symbol_of m) n
  pub of : n < length r.vars
  pub root_of : (variable_at r.vars n).root < length r.vars
  pub name : root_name_at r.vars n ≡ m.root_name
  pub set : coded_at r.vars n ≡ m.set

-- ---- kinds

-- a kind is of values of a type
pub record AreValuesIn (r : Registered) (m : MeantType) (f : OperandKindFields) : Type 0 where
  pub number : ℕ
  pub is : f ≡ fields.TypeVar number
  pub type_is : IsTypeIn r m number

-- what operands of a kind are
abbrev pub AreFieldsIn : Registered → MeantSort → OperandKindFields → Type 0
AreFieldsIn r Entity f = f ≡ fields.EntityRef
AreFieldsIn r Imm f = f ≡ fields.ImmValue
AreFieldsIn r (ImmEnum values) f = f ≡ fields.ImmEnum values
AreFieldsIn r VariableArgs f = f ≡ fields.VariableArgs
AreFieldsIn r (Value m) f = AreValuesIn r m f

-- the kind is the one that is meant
pub record IsKindIn (r : Registered) (k : MeantKind) (kind : OperandKind) : Type 0 where
  pub field : kind.rust_field_name ≡ k.field
  pub rust : kind.rust_type ≡ k.rust
  pub sort : AreFieldsIn r k.sort kind.fields
  pub doc : doc_of_kind kind ≡ Some k.doc

-- ---- growing

-- the registry has some more variables, after those that there were
pub record Extends (old new : Registered) : Type 0 where
  pub more : List TypeVarContent
  pub symbols_more : List Symbol
  pub vars : new.vars ≡ old.vars ++ more
  pub symbols : new.symbols ≡ old.symbols ++ symbols_more
