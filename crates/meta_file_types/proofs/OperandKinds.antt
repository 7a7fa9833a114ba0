-- The kinds of operands.
use Rattle.std.proofs.Common.{◌≡◌, ◌∙◌, ℕ, true, false, List, [], ◌∷◌, length, ◌==◌, sym, ap, subst, refl, arith}
use Rattle.std.specs.Prelude.{Option, Some, None, Result, Ok, Err, OnOk}
use Rattle.std.proofs.lemmas.Bool.{eqb-true}
use Rattle.meta_types.specs.declared.derived_func.DerivedFunc.{DerivedFunc}
use Rattle.meta_file_syntax.specs.declared.types.TypeExpr.{TypeExpr}
use Rattle.meta_operands.specs.declared.kind.OperandKind.{OperandKind}
use Rattle.meta_file_types.specs.declared.refused.Reason.{Reason}
use Rattle.meta_file_types.specs.declared.refused.ItemError.{ItemError}
use Rattle.meta_file_types.specs.declared.refused.ItemError.TheVariants.{Memory, Wrong}
use Rattle.meta_file_types.specs.declared.types.Types.{Types}
use Rattle.meta_file_types.specs.Meant.{MeantType, MeantKind, TypeSense, KindSense}
use Rattle.meta_file_types.specs.Symbols.{Symbol}
use Rattle.meta_file_types.specs.Words.{type_of}
use Rattle.meta_file_types.specs.Said.{Said, with_meant, after_type}
use Rattle.meta_file_types.specs.Telling.{◌>>=◌, IsMeant, Tells}
use Rattle.meta_file_types.specs.Registered.{Registered, IsTypeIn, Extends}
use Rattle.meta_file_types.specs.Operands.{without_functions, kind_by_word, operand_by, operand_of, with_sense, after_operand, AreKindsIn}
use Rattle.meta_file_types.specs.Operands.{IsValueKindIn, IsOperandKindIn}
use Rattle.meta_file_types.specs.Held.{registered, HoldsIn, Holds}
use Rattle.meta_file_types.proofs.Staying.{extends_same}

-- ---- by the word

pub no_functions : (r : Registered) (fs : List DerivedFunc) (kind : Option MeantKind) (o : Option OperandKind) → (length fs == 0) ≡ true
    → AreKindsIn r kind o → AreKindsIn r (without_functions fs kind) o
no_functions r [] kind o e h = h
no_functions r (f ∷ fs) kind o e h =
    let none : length (f ∷ fs) ≡ 0 = eqb-true (length (f ∷ fs)) 0 e in
    absurd (omega arith)

pub some_functions : (r : Registered) (fs : List DerivedFunc) (kind : Option MeantKind) → (length fs == 0) ≡ false
    → AreKindsIn r (without_functions fs kind) None
some_functions r [] kind e = absurd (cc)
some_functions r (f ∷ fs) kind e = tt

-- ---- values

pub value_kind : (r : Registered) (a : Result MeantType Reason) (n : ℕ) (kind : OperandKind) → IsMeant (IsTypeIn r) n a
    → ((m : MeantType) → IsTypeIn r m n → IsValueKindIn r m kind) → IsMeant (IsValueKindIn r) kind a
value_kind r a n kind h make = record { meaning = h.meaning; is = h.is; by = make h.meaning h.by }

-- ---- operands

-- the kind that was found
module _ (t : Types) (s : Said) (x : TypeExpr) (kind : OperandKind) (h : AreKindsIn (registered t s) (kind_by_word s.words x)
    (Some kind)) where
  kind_meant : (o : Option MeantKind) → AreKindsIn (registered t s) o (Some kind)
      → (k : MeantKind) × (o ≡ Some k) × IsOperandKindIn (registered t s) (KindSense k) kind
  kind_meant None h = absurd h
  kind_meant (Some k) h = (k, refl, h)

  is_operand : (k : MeantKind) × (operand_of s.words x ≡ Ok (KindSense k)) × IsOperandKindIn (registered t s) (KindSense k) kind
  is_operand =
      let m = kind_meant (kind_by_word s.words x) h in
      (m.0, ap (operand_by (type_of s.words x)) m.1, m.2)

  symbols_same : s.symbols ≡ with_sense s.symbols (operand_of s.words x)
  symbols_same = sym (ap (with_sense s.symbols) is_operand.1)

  pub kind_means : IsMeant (IsOperandKindIn (registered t (after_operand s x))) kind (operand_of s.words x)
  kind_means = record {
    meaning = KindSense is_operand.0;
    is = is_operand.1;
    by = subst (λ (ss : List Symbol). IsOperandKindIn (record { vars = t.vars; symbols = ss })
        (KindSense is_operand.0) kind) symbols_same is_operand.2;
  }

  pub kind_holds : Holds t s → Holds t (after_operand s x)
  kind_holds held = subst (λ (ss : List Symbol). HoldsIn
      (record { vars = t.vars; symbols = ss }) t.plain.items t.words s.roots s.words) symbols_same held

  pub kind_extends : Extends (registered t s) (registered t (after_operand s x))
  kind_extends =
      subst (λ (ss : List Symbol). Extends (registered t s) (record { vars = t.vars; symbols = ss })) symbols_same (extends_same
      (registered t s))

-- none was found
module _ (r : Registered) (s : Said) (x : TypeExpr) (h : AreKindsIn r (kind_by_word s.words x) None) where
  none_meant : (o : Option MeantKind) → AreKindsIn r o None → o ≡ None
  none_meant None h = refl
  none_meant (Some k) h = absurd h

  is_value : operand_of s.words x ≡ (type_of s.words x >>= λ m. Ok (TypeSense m))
  is_value = ap (operand_by (type_of s.words x)) (none_meant (kind_by_word s.words x) h)

  same_by : (ss : List Symbol) (a : Result MeantType Reason) → with_meant ss a ≡ with_sense ss (a >>= λ m. Ok (TypeSense m))
  same_by ss (Ok m) = refl
  same_by ss (Err reason) = refl

  value_symbols : with_meant s.symbols (type_of s.words x) ≡ with_sense s.symbols (operand_of s.words x)
  value_symbols = same_by s.symbols (type_of s.words x) ∙ sym (ap (with_sense s.symbols) is_value)

  pub value_means : (new : Types) (result : Result OperandKind ItemError)
      → Tells (IsValueKindIn (registered new (after_type s x))) result (type_of s.words x)
      → Tells (IsOperandKindIn (registered new (after_operand s x))) result (operand_of s.words x)
  value_means new (Ok kind) m = record {
    meaning = TypeSense m.meaning;
    is = is_value ∙ ap (λ (a : Result MeantType Reason). a >>= λ m. Ok (TypeSense m)) m.is;
    by = subst (λ (ss : List Symbol). IsValueKindIn (record { vars = new.vars; symbols = ss }) m.meaning kind) value_symbols m.by;
  }
  value_means new (Err Memory) m = tt
  value_means new (Err (Wrong reason)) m = is_value ∙ ap (λ (a : Result MeantType Reason). a >>= λ m. Ok (TypeSense m)) m

  pub value_holds : (new : Types) (result : Result OperandKind ItemError) → OnOk result (Holds new (after_type s x))
      → OnOk result (Holds new (after_operand s x))
  value_holds new (Ok kind) held =
      subst (λ (ss : List Symbol). HoldsIn
      (record { vars = new.vars; symbols = ss }) new.plain.items new.words s.roots s.words) value_symbols held
  value_holds new (Err e) held = tt

  pub value_extends : (old : Registered) (new : Types) (result : Result OperandKind ItemError)
      → OnOk result (Extends old (registered new (after_type s x))) → OnOk result (Extends old (registered new (after_operand s x)))
  value_extends old new (Ok kind) e =
      subst (λ (ss : List Symbol). Extends old (record { vars = new.vars; symbols = ss })) value_symbols e
  value_extends old new (Err f) e = tt
