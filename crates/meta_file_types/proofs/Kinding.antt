-- What operands of a kind are.
use Rattle.std.proofs.Common.{◌≡◌, ◌∙◌, ℕ, List, [], sym, ap, refl, subst, Bool, true, false, cond}
use Rattle.std.specs.Prelude.{Option, Some, None, Result, Ok, Err, is_some}
use Rattle.meta_types.specs.TypeParts.{TypeParts}
use Rattle.meta_operands.specs.EnumEntries.{EnumEntries}
use Rattle.meta_operands.specs.declared.kind.OperandKind.{OperandKind}
use Rattle.meta_operands.specs.declared.kind.OperandKindFields.TheVariants as fields
use Rattle.meta_file_syntax.specs.declared.types.TypeExpr.{TypeExpr}
use Rattle.meta_file_syntax.specs.declared.kinds.EnumValue.{EnumValue}
use Rattle.meta_file_syntax.specs.declared.kinds.Sort.{Sort}
use Rattle.meta_file_syntax.specs.declared.kinds.Sort.TheVariants as sorts
use Rattle.meta_file_types.specs.declared.refused.Reason.{Reason}
use Rattle.meta_file_types.specs.declared.refused.Reason.TheVariants.{Unknown, NoKind}
use Rattle.meta_file_types.specs.declared.refused.ItemError.{ItemError}
use Rattle.meta_file_types.specs.Meant.{MeantType, Entity, Imm, ImmEnum, VariableArgs, Value, Sense, TypeSense, KindSense}
use Rattle.meta_file_types.specs.Meant.{kind_given}
use Rattle.meta_file_types.specs.Words.{Entry, entry_of, sense_of, type_of, values_from, sort_of}
use Rattle.meta_file_types.specs.Telling.{◌>>=◌, Fails, IsMeant}
use Rattle.meta_file_types.specs.Registered.{Registered, IsTypeIn, AreFieldsIn, IsKindIn, Extends}
use Rattle.meta_file_types.specs.Said.{Said, with_meant, with_sort, after_type, after_sort}
use Rattle.meta_file_types.specs.Symbols.{Symbol}
use Rattle.meta_file_types.specs.declared.types.Types.{Types}
use Rattle.meta_file_types.specs.Operands.{kind_in, kind_or_reason, kind_named, AreKindsIn}
use Rattle.meta_file_types.specs.declared.given.GivenKind.{GivenKind}
use Rattle.meta_file_types.specs.declared.words.Word.{Word as Kept}
use Rattle.meta_file_types.specs.Plain.{plain_type, given_kind}
use Rattle.meta_file_types.specs.Held.{registered, kind_kept, IsWordIn, HoldsIn, Holds}
use Rattle.meta_file_types.proofs.Naming.{sense_plain, sense_given, sense_word}
use Rattle.meta_file_types.proofs.Told.{fails_on, kind_of_word, no_kind_of_word}

-- ---- sorts

pub sort_entity : (r : Registered) (entries : List Entry) (sort : Sort) → sort ≡ sorts.Entity
    → IsMeant (AreFieldsIn r) fields.EntityRef (sort_of entries sort)
unfolding sort_of
sort_entity r entries sort e = record { meaning = Entity; is = ap (sort_of entries) e; by = refl }

pub sort_imm : (r : Registered) (entries : List Entry) (sort : Sort) → sort ≡ sorts.Imm
    → IsMeant (AreFieldsIn r) fields.ImmValue (sort_of entries sort)
unfolding sort_of
sort_imm r entries sort e = record { meaning = Imm; is = ap (sort_of entries) e; by = refl }

pub sort_varargs : (r : Registered) (entries : List Entry) (sort : Sort) → sort ≡ sorts.Varargs
    → IsMeant (AreFieldsIn r) fields.VariableArgs (sort_of entries sort)
unfolding sort_of
sort_varargs r entries sort e = record { meaning = VariableArgs; is = ap (sort_of entries) e; by = refl }

module _ (entries : List Entry) (sort : Sort) (values vs : List EnumValue) (sort_is : sort ≡ sorts.ImmEnum values) (vs_are : vs
    ≡ values) where
  enum_is : sort_of entries sort ≡ (values_from [] vs >>= λ es. Ok (ImmEnum es))
  unfolding sort_of
  enum_is =
      ap (sort_of entries) sort_is ∙ sym (ap (λ (xs : List EnumValue). values_from [] xs >>= λ es. Ok (ImmEnum es)) vs_are)

  pub sort_enum : (r : Registered) (es : EnumEntries) → IsMeant (λ es v. v ≡ es) es (values_from [] vs)
      → IsMeant (AreFieldsIn r) (fields.ImmEnum es) (sort_of entries sort)
  sort_enum r es h = record {
    meaning = ImmEnum h.meaning;
    is = enum_is ∙ ap (λ (a : Result EnumEntries Reason). a >>= λ es. Ok (ImmEnum es)) h.is;
    by = ap (λ (es : EnumEntries). fields.ImmEnum es) h.by;
  }

  pub sort_enum_fails : (e : ItemError) → Fails e (values_from [] vs) → Fails e (sort_of entries sort)
  sort_enum_fails e h = subst (Fails e) (sym enum_is) (fails_on e (values_from [] vs) (λ es. Ok (ImmEnum es)) h)

module _ (said : Said) (sort : Sort) (t : TypeExpr) (sort_is : sort ≡ sorts.Value t) where
  value_is : sort_of said.words sort ≡ (type_of said.words t >>= λ m. Ok (Value m))
  unfolding sort_of
  value_is = ap (sort_of said.words) sort_is

  symbols_are : with_meant said.symbols (type_of said.words t) ≡ with_sort said.words said.symbols sort
  symbols_are = sym (ap (with_sort said.words said.symbols) sort_is)

  pub sort_value : (now : Types) (n : ℕ) → IsMeant (IsTypeIn (registered now (after_type said t))) n (type_of said.words t)
      → IsMeant (AreFieldsIn (registered now (after_sort said sort))) (fields.TypeVar n) (sort_of said.words sort)
  sort_value now n h = record {
    meaning = Value h.meaning;
    is = value_is ∙ ap (λ (a : Result MeantType Reason). a >>= λ m. Ok (Value m)) h.is;
    by = record {
      number = n;
      is = refl;
      type_is = subst (λ (ss : List Symbol). IsTypeIn (record { vars = now.vars; symbols = ss }) h.meaning n) symbols_are h.by;
    };
  }

  pub sort_value_fails : (e : ItemError) → Fails e (type_of said.words t) → Fails e (sort_of said.words sort)
  sort_value_fails e h = subst (Fails e) (sym value_is) (fails_on e (type_of said.words t) (λ m. Ok (Value m)) h)

  pub sort_holds : (now : Types) → Holds now (after_type said t) → Holds now (after_sort said sort)
  sort_holds now h =
      subst (λ (ss : List Symbol). HoldsIn
      (record { vars = now.vars; symbols = ss }) now.plain.items now.words said.roots said.words) symbols_are h

  pub sort_extends : (old : Registered) (now : Types) → Extends old (registered now (after_type said t))
      → Extends old (registered now (after_sort said sort))
  sort_extends old now h = subst (λ (ss : List Symbol). Extends old (record { vars = now.vars; symbols = ss })) symbols_are h

-- ---- the kind that a word stands for

kind_meant : (r : Registered) (w : List ℕ) (o : Option Sense) (kind : OperandKind) → AreKindsIn r (kind_in o) (Some kind)
    → IsMeant (IsKindIn r) kind (kind_or_reason w o)
kind_meant r w None kind h = absurd h
kind_meant r w (Some (TypeSense m)) kind h = absurd h
kind_meant r w (Some (KindSense k)) kind h = record { meaning = k; is = refl; by = h }

pub kind_found : (r : Registered) (entries : List Entry) (w : List ℕ) (kind : OperandKind)
    → AreKindsIn r (kind_in (sense_of entries w)) (Some kind)
    → IsMeant (IsKindIn r) kind (kind_named entries w)
kind_found r entries w kind h = kind_meant r w (sense_of entries w) kind h

-- a word that stands for a type, or for nothing, is no kind
no_kind_of : (r : Registered) (o : Option Sense) → AreKindsIn r (kind_in o) None → kind_in o ≡ None
no_kind_of r None h = refl
no_kind_of r (Some (TypeSense m)) h = refl
no_kind_of r (Some (KindSense k)) h = absurd h

reason_by : (w : List ℕ) (o : Option Sense) (b : Bool) → kind_in o ≡ None → b ≡ is_some o
    → kind_or_reason w o ≡ cond b (Err (NoKind w)) (Err (Unknown w))
reason_by w None b n e = ap (λ (b : Bool). cond b (Err (NoKind w)) (Err (Unknown w))) (sym e)
reason_by w (Some (TypeSense m)) b n e = ap (λ (b : Bool). cond b (Err (NoKind w)) (Err (Unknown w))) (sym e)
reason_by w (Some (KindSense k)) b n e = absurd (cc)

pub kind_is_type : (r : Registered) (entries : List Entry) (w : List ℕ) → AreKindsIn r (kind_in (sense_of entries w)) None
    → true ≡ is_some (sense_of entries w) → kind_named entries w ≡ Err (NoKind w)
kind_is_type r entries w h e = reason_by w (sense_of entries w) true (no_kind_of r (sense_of entries w) h) e

pub kind_unknown : (r : Registered) (entries : List Entry) (w : List ℕ) → AreKindsIn r (kind_in (sense_of entries w)) None
    → false ≡ is_some (sense_of entries w) → kind_named entries w ≡ Err (Unknown w)
kind_unknown r entries w h e = reason_by w (sense_of entries w) false (no_kind_of r (sense_of entries w) h) e

-- what is kept of a word, by what it is
pub plain_no_kind : (r : Registered) (entries : List Entry) (w : List ℕ) (t : TypeParts) → plain_type w ≡ Some t
    → AreKindsIn r (kind_in (sense_of entries w)) None
plain_no_kind r entries w t e = subst (λ (o : Option Sense). AreKindsIn r (kind_in o) None) (sym (sense_plain entries w t e)) tt

pub given_is_kind : (r : Registered) (entries : List Entry) (w : List ℕ) (k : GivenKind) (kind : OperandKind) → plain_type w ≡ None
    → given_kind w ≡ Some k → IsKindIn r (kind_given k) kind → AreKindsIn r (kind_in (sense_of entries w)) (Some kind)
given_is_kind r entries w k kind n e h =
    subst (λ (o : Option Sense). AreKindsIn r (kind_in o) (Some kind)) (sym (sense_given entries w k n e)) h

pub kept_is_kind : (r : Registered) (entries : List Entry) (w : List ℕ) (kept : Kept) → plain_type w ≡ None → given_kind w ≡ None
    → IsWordIn r (entry_of entries w) (Some kept) → AreKindsIn r (kind_in (sense_of entries w)) (kind_kept kept.meaning)
kept_is_kind r entries w kept n e h =
    subst (λ (o : Option Sense). AreKindsIn r (kind_in o) (kind_kept kept.meaning)) (sym (sense_word entries w n e))
    (kind_of_word r (entry_of entries w) kept h)

pub none_is_kind : (r : Registered) (entries : List Entry) (w : List ℕ) → plain_type w ≡ None → given_kind w ≡ None
    → IsWordIn r (entry_of entries w) None → AreKindsIn r (kind_in (sense_of entries w)) None
none_is_kind r entries w n e h =
    subst (λ (o : Option Sense). AreKindsIn r (kind_in o) None) (sym (sense_word entries w n e)) (no_kind_of_word r (entry_of entries w) h)
