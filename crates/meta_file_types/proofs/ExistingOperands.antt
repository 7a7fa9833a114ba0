-- A registry of what operands mention.
use Rattle.std.proofs.Common.{List, [], ◌∷◌, refl}
use Rattle.std.specs.Prelude.{Option, Some, None, option_map, Result, Ok, Err, IfOk, IfSome, codes, ℕ}
use Rattle.std.specs.Option.{option_or}
use Rattle.meta_types.specs.TypeParts.{TypeParts}
use Rattle.meta_operands.specs.declared.kind.OperandKind.{OperandKind}
use Rattle.meta_operands.specs.declared.kind.OperandKindFields.TheVariants as fields
use Rattle.meta_types.specs.declared.derived_func.DerivedFunc.{DerivedFunc}
use Rattle.meta_file_syntax.specs.declared.types.TypeExpr.{TypeExpr}
use Rattle.meta_file_types.specs.declared.refused.Reason.{Reason}
use Rattle.meta_file_types.specs.declared.given.GivenKind.{GivenKind}
use Rattle.meta_file_types.specs.Plain.{plain_type, given_kind}
use Rattle.meta_file_types.specs.Meant.{MeantType, MeantRoot, MeantKind, Sense, TypeSense, KindSense, plain, kind_given}
use Rattle.meta_file_types.specs.Words.{Entry, entry_of, sense_of, type_of}
use Rattle.meta_file_types.specs.Operands.{kind_in, kind_or_reason, kind_named, without_functions, kind_by_word, operand_by, operand_of}
use Rattle.meta_file_types.specs.Operands.{with_sense, IsOperandKindIn}
use Rattle.meta_file_types.specs.Registered.{Registered}
use Rattle.meta_file_types.proofs.Existing.{IsThere, Serves, Grows, Mentions, grows_not, entry_there, mentions_type, given_there}

-- an operand is there: its kind
abbrev pub IsOperandThere : Registered → Sense → Type 0
IsOperandThere r what = (kind : OperandKind) × IsOperandKindIn r what kind

-- a registry that has what is mentioned, and the operand, where one is meant
pub record GrowsByOperand (r : Registered) (roots : List MeantRoot) (entries : List Entry) (a : Result Sense Reason) : Type 0 where
  pub grows : Grows r (with_sense r.symbols a) roots entries
  pub there : IfOk a (IsOperandThere (record { vars = grows.vars; symbols = with_sense r.symbols a }))

module _ (r : Registered) (roots : List MeantRoot) (entries : List Entry) (h : Serves r roots entries) where
  abbrev IsKindThere : MeantKind → Type 0
  IsKindThere k = IsThere r (KindSense k)

  kind_of_sense : (o : Option Sense) → IfSome o (IsThere r) → IfSome (kind_in o) IsKindThere
  kind_of_sense None g = tt
  kind_of_sense (Some (TypeSense m)) g = tt
  kind_of_sense (Some (KindSense k)) g = g

  kind_of_word : (w : List ℕ) → IfSome (kind_in (sense_of entries w)) IsKindThere
  kind_of_word w = by (plain_type w) (given_kind w)
    where
      by : (p : Option TypeParts) (k : Option GivenKind) → IfSome (kind_in
          (option_or (option_map (λ t. TypeSense (plain t)) p)
          (option_or (option_map (λ k. KindSense (kind_given k)) k) (option_map (λ e. e.sense) (entry_of entries w))))) IsKindThere
      by (Some t) k = tt
      by None (Some k) = given_there r k
      by None None = kind_of_sense (option_map (λ e. e.sense) (entry_of entries w)) (entry_there r roots entries h w entries h.words)

  -- the kind that a word stands for
  pub named_there : (w : List ℕ) → IfOk (kind_named entries w) IsKindThere
  named_there w = by (sense_of entries w) (kind_of_word w)
    where
      by : (o : Option Sense) → IfSome (kind_in o) IsKindThere → IfOk (kind_or_reason w o) IsKindThere
      by None g = tt
      by (Some (TypeSense m)) g = tt
      by (Some (KindSense k)) g = g

  by_word_there : (t : TypeExpr) → IfSome (kind_by_word entries t) IsKindThere
  by_word_there t = by t.functions (kind_in (sense_of entries t.word)) (kind_of_word t.word)
    where
      by : (fs : List DerivedFunc) (o : Option MeantKind) → IfSome o IsKindThere → IfSome (without_functions fs o) IsKindThere
      by [] o g = g
      by (f ∷ fs) o g = tt

  -- an operand
  pub operand_grows : (t : TypeExpr) → GrowsByOperand r roots entries (operand_of entries t)
  operand_grows t = by (type_of entries t) (mentions_type r roots entries h t) (kind_by_word entries t) (by_word_there t)
    where
      by : (a : Result MeantType Reason) → Mentions r roots entries a → (o : Option MeantKind) → IfSome o IsKindThere
          → GrowsByOperand r roots entries (operand_by a o)
      by a g (Some k) there = record { grows = grows_not r roots entries h; there = there }
      by (Err reason) g None there = record { grows = grows_not r roots entries h; there = tt }
      by (Ok m) g None there = record {
        grows = record { vars = g.vars; serves = g.serves; extends = g.extends };
        there = (
          record { rust_field_name = codes "value"; rust_type = codes "ir::Value"; fields = fields.TypeVar g.number; doc = None },
          record { field = refl; rust = refl; sort = record { number = g.number; is = refl; type_is = g.is }; doc = refl },
        );
      }
