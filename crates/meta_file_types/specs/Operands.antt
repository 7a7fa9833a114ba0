-- What operands of formats and instructions mean.
--     kind_named words w        the kind that a word stands for, or why it doesn't stand for a kind
--     kind_by_word words t      the kind that an operand is, by its word
--     operand_of words t        what an operand is: a kind by its word, or values of a type
--     after_operand s t         what is declared and mentioned after an operand
use Rattle.std.specs.Prelude.{◌≡◌, ℕ, List, [], ◌∷◌, Option, Some, None, Result, Ok, Err, codes}
use Rattle.meta_types.specs.declared.derived_func.DerivedFunc.{DerivedFunc}
use Rattle.meta_file_syntax.specs.declared.types.TypeExpr.{TypeExpr}
use Rattle.meta_operands.specs.Kind.{doc_of_kind}
use Rattle.meta_operands.specs.declared.kind.OperandKind.{OperandKind}
use Rattle.meta_file_types.specs.declared.refused.Reason.{Reason}
use Rattle.meta_file_types.specs.declared.refused.Reason.TheVariants.{Unknown, NoKind}
use Rattle.meta_file_types.specs.Meant.{MeantType, MeantKind, Sense, TypeSense, KindSense}
use Rattle.meta_file_types.specs.Words.{Entry, sense_of, type_of}
use Rattle.meta_file_types.specs.Telling.{◌>>=◌}
use Rattle.meta_file_types.specs.Symbols.{Symbol, with_type}
use Rattle.meta_file_types.specs.Said.{Said}
use Rattle.meta_file_types.specs.Registered.{Registered, AreValuesIn, IsKindIn}

-- the kind that a sense is, if it is one
abbrev pub kind_in : Option Sense → Option MeantKind
kind_in None = None
kind_in (Some (TypeSense m)) = None
kind_in (Some (KindSense k)) = Some k

-- the kind that a word stands for
abbrev pub kind_or_reason : List ℕ → Option Sense → Result MeantKind Reason
kind_or_reason w None = Err (Unknown w)
kind_or_reason w (Some (TypeSense m)) = Err (NoKind w)
kind_or_reason w (Some (KindSense k)) = Ok k

abbrev pub kind_named : List Entry → List ℕ → Result MeantKind Reason
kind_named words w = kind_or_reason w (sense_of words w)

-- the kind that the word of an operand stands for, if it has no functions and the word stands for a kind
abbrev pub without_functions : List DerivedFunc → Option MeantKind → Option MeantKind
without_functions [] kind = kind
without_functions (f ∷ fs) kind = None

abbrev pub kind_by_word : List Entry → TypeExpr → Option MeantKind
kind_by_word words t = without_functions t.functions (kind_in (sense_of words t.word))

-- what an operand is: a kind where its type is the word of one, and else values of the type
abbrev pub operand_by : Result MeantType Reason → Option MeantKind → Result Sense Reason
operand_by m None = m >>= λ m. Ok (TypeSense m)
operand_by m (Some k) = Ok (KindSense k)

abbrev pub operand_of : List Entry → TypeExpr → Result Sense Reason
operand_of words t = operand_by (type_of words t) (kind_by_word words t)

-- what is mentioned after an operand
abbrev pub with_sense : List Symbol → Result Sense Reason → List Symbol
with_sense symbols (Ok (TypeSense m)) = with_type symbols m
with_sense symbols (Ok (KindSense k)) = symbols
with_sense symbols (Err reason) = symbols

abbrev pub after_operand : Said → TypeExpr → Said
after_operand s t = record { words = s.words; roots = s.roots; symbols = with_sense s.symbols (operand_of s.words t) }

-- ---- kinds in a registry

-- the kind is the one that is meant, if one is
abbrev pub AreKindsIn : Registered → Option MeantKind → Option OperandKind → Type 0
AreKindsIn r None None = Unit {0}
AreKindsIn r None (Some kind) = ⊥
AreKindsIn r (Some k) None = ⊥
AreKindsIn r (Some k) (Some kind) = IsKindIn r k kind

-- the kind is that of values of the type
pub record IsValueKindIn (r : Registered) (m : MeantType) (kind : OperandKind) : Type 0 where
  pub field : kind.rust_field_name ≡ codes "value"
  pub rust : kind.rust_type ≡ codes "ir::Value"
  pub sort : AreValuesIn r m kind.fields
  pub doc : doc_of_kind kind ≡ None

-- the kind is what the operand is
abbrev pub IsOperandKindIn : Registered → Sense → OperandKind → Type 0
IsOperandKindIn r (TypeSense m) kind = IsValueKindIn r m kind
IsOperandKindIn r (KindSense k) kind = IsKindIn r k kind
