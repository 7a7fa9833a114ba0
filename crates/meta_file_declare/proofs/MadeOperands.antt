-- Operands, one by one.
use Rattle.std.proofs.Common.{◌≡◌, ◌∙◌, ◌+◌, ℕ, List, [], ◌∷◌, ◌++◌, get_or, sym, ap, subst}
use Rattle.std.specs.Prelude.{slice_get, Some, Ok}
use Rattle.std.proofs.lemmas.Option.{get_or_from_slice_get}
use Rattle.meta_lists.proofs.Pairs.{pairs_joined}
use Rattle.meta_operands.specs.Operand.{own_doc}
use Rattle.meta_operands.specs.declared.kind.OperandKind.{OperandKind}
use Rattle.meta_operands.specs.declared.operand.Operand.{Operand}
use Rattle.meta_file_syntax.specs.declared.insts.Operand.{Operand as OperandItem}
use Rattle.meta_file_syntax.specs.Named.{name_bytes}
use Rattle.meta_file_types.specs.Words.{Entry}
use Rattle.meta_file_types.specs.declared.types.Types.{Types}
use Rattle.meta_file_types.specs.Said.{Said}
use Rattle.meta_file_types.specs.Held.{registered}
use Rattle.meta_file_types.specs.Operands.{operand_of, after_operand, IsOperandKindIn}
use Rattle.meta_file_types.specs.Registered.{Registered, Extends}
use Rattle.meta_file_types.specs.declared.refused.ItemError.{ItemError}
use Rattle.meta_file_types.specs.Telling.{◌>>=◌, IsMeant}
use Rattle.meta_file_types.specs.Telling.{Fails}
use Rattle.meta_file_declare.specs.Insts.{operand_with, operand_at, operands_of}
use Rattle.meta_file_declare.specs.Registered.{IsOperandIn, AreOperandsIn}
use Rattle.meta_file_types.proofs.Told.{fails_on}
use Rattle.meta_file_declare.proofs.Each.{SoFar, goes_on, fails_here}
use Rattle.meta_file_declare.proofs.Staying.{operands_stay}

-- ---- one operand

-- what stands at the place
pub at_place : {A : Type 0} (xs : List A) (k : ℕ) (x y : A) → x ≡ get_or xs k x → slice_get xs k ≡ Some y → x ≡ y
at_place xs k x y is at = is ∙ get_or_from_slice_get xs k y x at

pub made : (t : Types) (s : Said) (x o : OperandItem) (kind : OperandKind) (operand : Operand) → x ≡ o
    → IsMeant (IsOperandKindIn (registered t (after_operand s x.what))) kind (operand_of s.words x.what)
    → operand.name ≡ name_bytes x.name → own_doc operand ≡ x.text → operand.kind ≡ kind
    → IsMeant (IsOperandIn (registered t (after_operand s o.what))) operand (operand_at s.words o)
made t s x o kind operand same h name doc kind_is =
    subst (λ o. IsMeant (IsOperandIn (registered t (after_operand s o.what))) operand (operand_at s.words o)) same (record {
      meaning = operand_with x h.meaning;
      is = ap (λ a. a >>= λ what. Ok (operand_with x what)) h.is;
      by = record {
        name = name;
        doc = doc;
        kind = subst (IsOperandKindIn (registered t (after_operand s x.what)) h.meaning) (sym kind_is) h.by;
      };
    })

pub not_made : (words : List Entry) (x o : OperandItem) (e : ItemError) → x ≡ o → Fails e (operand_of words x.what)
    → Fails e (operand_at words o)
not_made words x o e same h =
    subst (λ o. Fails e (operand_at words o)) same (fails_on e (operand_of words x.what) (λ what. Ok (operand_with x what)) h)

-- ---- operands, in order

abbrev pub AreSoFar : Registered → List Entry → List OperandItem → ℕ → List Operand → Type 0
AreSoFar r words items k operands =
    SoFar (λ k o. operand_at words o) items k (λ ms. AreOperandsIn r ms operands)

pub one_more : (old new : Registered) (words : List Entry) (items : List OperandItem) (k : ℕ) (item : OperandItem)
    (operands : List Operand) (operand : Operand) → Extends old new → slice_get items k ≡ Some item
    → IsMeant (IsOperandIn new) operand (operand_at words item)
    → AreSoFar old words items k operands → AreSoFar new words items (k + 1) (operands ++ operand ∷ [])
one_more old new words items k item operands operand extends at m h =
    goes_on (λ k o. operand_at words o) items k item m.meaning (λ ms. AreOperandsIn old ms operands)
    (λ ms. AreOperandsIn new ms (operands ++ operand ∷ [])) at m.is
    (λ ms are. pairs_joined (IsOperandIn new) ms (m.meaning ∷ []) operands (operand ∷ [])
    (operands_stay old new extends ms operands are) (m.by, tt))
    h

pub not_one_more : (r : Registered) (words : List Entry) (items : List OperandItem) (k : ℕ) (item : OperandItem)
    (operands : List Operand) (e : ItemError) → slice_get items k ≡ Some item → Fails e (operand_at words item)
    → AreSoFar r words items k operands → Fails e (operands_of words items)
not_one_more r words items k item operands e at f h =
    fails_here (λ k o. operand_at words o) items k item (λ ms. AreOperandsIn r ms operands) e at f h
