-- What the words of the tables mean.
--     Meanings                 what the words are looked up in
--     IsKindOfWord vars m word kind      the kind is what the word means
--     Grows n old new          the variables old, and at most n more
use Rattle.std.specs.Prelude.{◌≡◌, ◌<◌, ◌≤◌, ℕ, Bool, true, false, List, ◌++◌, length, None, codes, if◌then◌else◌}
use Rattle.meta_types.specs.DerivedFunc.{function_of}
use Rattle.meta_typevar.specs.Variable.{Variable, underived, longer}
use Rattle.meta_typevar.specs.Image.{can_derive}
use Rattle.meta_typevar.specs.Registry.{variable_at}
use Rattle.meta_typevar.specs.declared.content.TypeVarContent.{TypeVarContent}
use Rattle.meta_operands.specs.Kind.{doc_of_kind}
use Rattle.meta_operands.specs.declared.kind.OperandKind.{OperandKind}
use Rattle.meta_operands.specs.declared.kind.OperandKindFields.TheVariants.{TypeVar}
use Rattle.meta_shared.specs.Kinds.{EntitiesHoldNoVariable, ImmediatesHoldNoVariable, kind_of}
use Rattle.meta_shared.specs.Roots.{AreRoots, root_of, set_of_root}
use Rattle.meta_shared.specs.declared.entities.EntityRefs.{EntityRefs}
use Rattle.meta_shared.specs.declared.formats.Formats.{Formats}
use Rattle.meta_shared.specs.declared.immediates.Immediates.{Immediates}
use Rattle.meta_shared.specs.declared.roots.Roots.{Roots}
use Rattle.meta_shared.specs.declared.word.Word.{Word}
use Rattle.meta_shared.specs.declared.word.Word.TheVariants.{Kind, Root, Derived}

-- what the words are looked up in
pub record Meanings : Type 0 where
  pub formats : Formats
  pub imm : Immediates
  pub entities : EntityRefs
  pub roots : Roots

-- no kind is of values, and each root is a root of the variables with its set
pub record AreMeant (vars : List TypeVarContent) (m : Meanings) : Type 0 where
  pub immediates : ImmediatesHoldNoVariable m.imm
  pub entities : EntitiesHoldNoVariable m.entities
  pub roots : AreRoots vars m.roots

-- the variables old, and after them at most n more
pub record Grows (n : ℕ) (old new : List TypeVarContent) : Type 0 where
  pub more : List TypeVarContent
  pub is : new ≡ old ++ more
  pub few : length more ≤ n

-- whether a word means a variable that is derived
abbrev pub is_derived : Word → Bool
is_derived (Kind kind) = false
is_derived (Root root) = false
is_derived (Derived function root) = true

abbrev pub derived_count : Word → ℕ
derived_count word = if is_derived word then 1 else 0

-- whether the set of the root lets a variable be derived from it, where the word means one
abbrev pub is_derivable : Word → Bool
is_derivable (Kind kind) = true
is_derivable (Root root) = true
is_derivable (Derived function root) = can_derive (function_of function) (set_of_root root)

-- the kind is that of values of the variable v
pub record IsValueOf (vars : List TypeVarContent) (v : Variable) (kind : OperandKind) : Type 0 where
  pub number : ℕ
  pub fields_are : kind.fields ≡ TypeVar number
  pub of : number < length vars
  pub variable : variable_at vars number ≡ v
  pub field_name : kind.rust_field_name ≡ codes "value"
  pub rust_type : kind.rust_type ≡ codes "ir::Value"
  pub doc : doc_of_kind kind ≡ None

-- the kind is what the word means
abbrev pub IsKindOfWord : List TypeVarContent → Meanings → Word → OperandKind → Type 0
IsKindOfWord vars m (Kind kind) k = k ≡ kind_of m.imm m.entities kind
IsKindOfWord vars m (Root root) k = IsValueOf vars (underived (root_of m.roots root)) k
IsKindOfWord vars m (Derived function root) k = IsValueOf vars (longer (underived (root_of m.roots root)) (function_of function)) k
