-- A registry of what items declare and mention of types.
use Rattle.std.proofs.Common.{◌≡◌, ◌+◌, ℕ, Bool, true, false, cond, List, [], ◌∷◌, ◌++◌, length, sym, subst, refl, inl, inr}
use Rattle.std.specs.Prelude.{Option, Some, None, option_map, Result, Ok, Err, IfSome, ◌⊎◌}
use Rattle.std.specs.List.{All}
use Rattle.std.specs.Option.{option_or}
use Rattle.std.proofs.lemmas.List.Elements.{All-head, All-tail, All-weaker}
use Rattle.meta_lists.proofs.Places.{get_there}
use Rattle.meta_lists.proofs.Pushed.{get_end}
use Rattle.meta_types.specs.DerivedFunc.{function_of}
use Rattle.meta_types.specs.TypeParts.{TypeParts, name_of}
use Rattle.meta_types.specs.TypeText.{type_doc}
use Rattle.meta_types.specs.declared.derived_func.DerivedFunc.{DerivedFunc}
use Rattle.meta_typevar.specs.Image.{can_derive}
use Rattle.meta_typevar.specs.Registry.{root_content, derived_content}
use Rattle.meta_typevar.specs.declared.content.TypeVarContent.{TypeVarContent}
use Rattle.meta_operands.specs.declared.kind.OperandKind.{OperandKind}
use Rattle.meta_operands.specs.declared.kind.OperandKindFields.{OperandKindFields}
use Rattle.meta_operands.specs.declared.kind.OperandKindFields.TheVariants as fields
use Rattle.meta_file_syntax.specs.declared.types.TypeExpr.{TypeExpr}
use Rattle.meta_file_types.specs.declared.refused.Reason.{Reason}
use Rattle.meta_file_types.specs.declared.refused.Reason.TheVariants.{CannotDerive, TooDeep, LongName}
use Rattle.meta_file_types.specs.declared.given.GivenKind.{GivenKind}
use Rattle.meta_file_types.specs.declared.given.GivenKind.TheVariants as given
use Rattle.meta_file_types.specs.Plain.{same_word, plain_type, given_kind, set_of_one}
use Rattle.meta_file_types.specs.Meant.{Plain, MeantType, MeantRoot, Sense, TypeSense, KindSense, plain, kind_given}
use Rattle.meta_file_types.specs.Meant.{MeantKind, derived_by}
use Rattle.meta_file_types.specs.Symbols.{Symbol, symbol, symbol_of, with_symbol, with_type}
use Rattle.meta_file_types.specs.Words.{Entry, entry_of, type_in, type_named, type_of, may_be_derived_from, has_long_name}
use Rattle.meta_file_types.specs.Words.{derive_at, derived_from}
use Rattle.meta_file_types.specs.Said.{with_meant}
use Rattle.meta_file_types.specs.Telling.{◌>>=◌, found_or}
use Rattle.meta_file_types.specs.Registered.{Registered, IsNumberOf, IsRegistryOf, IsTypeIn, IsKindIn, AreFieldsIn, Extends}
use Rattle.meta_file_types.proofs.SameSymbol.{known_or_new, with_known, with_new}
use Rattle.meta_file_types.proofs.Mentioned.{with_there}
use Rattle.meta_file_types.proofs.Mentioning.{with_derived}
use Rattle.meta_file_types.proofs.Staying.{extends_same, extends_more, type_stays, kind_stays}
use Rattle.meta_file_types.proofs.Registry.{with_one, extends_one, registry_same, root_in}
use Rattle.meta_file_types.proofs.OneFunction.{known_type, made_registry, made_type}

-- ---- what there is in a registry

-- what a word stands for is there: the variable of a type, and a kind
abbrev pub IsThere : Registered → Sense → Type 0
IsThere r (TypeSense m) = (n : ℕ) × IsTypeIn r m n
IsThere r (KindSense k) = (kind : OperandKind) × IsKindIn r k kind

pub sense_stays : (old new : Registered) → Extends old new → (s : Sense) → IsThere old s → IsThere new s
sense_stays old new e (TypeSense m) h = (h.0, type_stays old new m h.0 e h.1)
sense_stays old new e (KindSense k) h = (h.0, kind_stays old new k h.0 e h.1)

-- the registry has what items declare, and what each of their words stands for
pub record Serves (r : Registered) (roots : List MeantRoot) (entries : List Entry) : Type 0 where
  pub registry : IsRegistryOf r roots
  pub words : All (λ (e : Entry). IsThere r e.sense) entries

pub words_stay : (old new : Registered) → Extends old new → (entries : List Entry) → All (λ (e : Entry). IsThere old e.sense) entries
    → All (λ (e : Entry). IsThere new e.sense) entries
words_stay old new e entries h =
    All-weaker (λ (x : Entry). IsThere old x.sense) (λ (x : Entry). IsThere new x.sense) (λ x. sense_stays old new e x.sense) entries h

-- a registry of these symbols that has all that an older one has
pub record Grows (old : Registered) (symbols : List Symbol) (roots : List MeantRoot) (entries : List Entry) : Type 0 where
  pub vars : List TypeVarContent
  pub serves : Serves (record { vars = vars; symbols = symbols }) roots entries
  pub extends : Extends old (record { vars = vars; symbols = symbols })

abbrev pub grown : (old : Registered) (symbols : List Symbol) (roots : List MeantRoot) (entries : List Entry)
    → Grows old symbols roots entries → Registered
grown old symbols roots entries g = record { vars = g.vars; symbols = symbols }

abbrev pub grows_not : (r : Registered) (roots : List MeantRoot) (entries : List Entry) → Serves r roots entries
    → Grows r r.symbols roots entries
grows_not r roots entries h = record { vars = r.vars; serves = h; extends = extends_same r }

-- ---- a type that is mentioned

-- a registry that has this type too
pub record GrowsWith (old : Registered) (symbols : List Symbol) (roots : List MeantRoot) (entries : List Entry)
    (m : MeantType) : Type 0 where
  pub vars : List TypeVarContent
  pub serves : Serves (record { vars = vars; symbols = symbols }) roots entries
  pub extends : Extends old (record { vars = vars; symbols = symbols })
  pub number : ℕ
  pub is : IsTypeIn (record { vars = vars; symbols = symbols }) m number

module _ (roots : List MeantRoot) (entries : List Entry) where
  with_these : (r : Registered) (m : MeantType) (ss : List Symbol) (n : ℕ) → Serves r roots entries → IsTypeIn r m n → r.symbols ≡ ss
      → GrowsWith r ss roots entries m
  with_these r m ss n h is e =
      subst (λ (x : List Symbol). GrowsWith r x roots entries m) e
      (record { vars = r.vars; serves = h; extends = extends_same r; number = n; is = is })

  -- that of a word
  of_word : (r : Registered) (m : MeantType) (n : ℕ) → Serves r roots entries → IsTypeIn r m n
      → GrowsWith r (with_type r.symbols m) roots entries m
  of_word r m n h is = with_these r m (with_type r.symbols m) n h is (sym (with_there r roots h.registry m n is))

  -- a plain type
  module _ (r : Registered) (t : TypeParts) (h : Serves r roots entries) where
    abbrev plain_content : TypeVarContent
    plain_content = root_content (name_of t) (type_doc t) (set_of_one t) (length r.vars)

    abbrev plain_one : Symbol
    plain_one = symbol (Plain t) []

    abbrev with_plain : Registered
    with_plain = with_one r plain_content plain_one

    plain_by : (((n : ℕ) × IsNumberOf r plain_one n) ⊎ ((n : ℕ) → IsNumberOf r plain_one n → ⊥))
        → GrowsWith r (with_type r.symbols (plain t)) roots entries (plain t)
    plain_by (inl at) =
        with_these r (plain t) (with_type r.symbols (plain t)) at.0 h
        (root_in r roots (Plain t) at.0 (name_of t) (type_doc t) (set_of_one t) h.registry at.1
        (h.registry.variables plain_one at.0 at.1)) (sym (with_known plain_one r.symbols at.0 at.1))
    plain_by (inr new) =
        let kept = get_end r.vars plain_content in
        let registry = registry_same r roots plain_content plain_one h.registry new kept in
        let grows = extends_one r plain_content plain_one in
        let number : IsNumberOf with_plain plain_one (length r.vars) =
        subst (λ (k : ℕ). IsNumberOf with_plain plain_one k) (sym h.registry.count) (get_end r.symbols plain_one) in
        subst (λ (ss : List Symbol). GrowsWith r ss roots entries (plain t)) (sym (with_new plain_one r.symbols new))
        (record {
          vars = r.vars ++ plain_content ∷ [];
          serves = record { registry = registry; words = words_stay r with_plain grows entries h.words };
          extends = grows;
          number = length r.vars;
          is = root_in with_plain roots (Plain t) (length r.vars) (name_of t) (type_doc t) (set_of_one t) registry number kept;
        })

    of_plain : GrowsWith r (with_type r.symbols (plain t)) roots entries (plain t)
    of_plain = plain_by (known_or_new plain_one r.symbols)

  -- what one function derives
  module _ (r : Registered) (m : MeantType) (n : ℕ) (h : Serves r roots entries) (is : IsTypeIn r m n) (g : DerivedFunc) where
    abbrev made : MeantType
    made = derived_by (function_of g) m

    abbrev one : Symbol
    one = symbol_of made

    function_by : (((k : ℕ) × IsNumberOf r one k) ⊎ ((k : ℕ) → IsNumberOf r one k → ⊥))
        → GrowsWith r (with_symbol r.symbols one) roots entries made
    function_by (inl at) =
        with_these r made (with_symbol r.symbols one) at.0 h (known_type r roots h.registry m n is g at.0 at.1)
        (sym (with_known one r.symbols at.0 at.1))
    function_by (inr new) =
        let c = get_there r.vars n is.of in
        let content = derived_content r.vars n c.0 g in
        let grows = extends_one r content one in
        subst (λ (ss : List Symbol). GrowsWith r ss roots entries made) (sym (with_new one r.symbols new))
        (record {
          vars = r.vars ++ content ∷ [];
          serves = record {
            registry = made_registry r roots h.registry m n is g new c.0 c.1;
            words = words_stay r (with_one r content one) grows entries h.words;
          };
          extends = grows;
          number = length r.vars;
          is = made_type r roots h.registry m n is g new c.0 c.1;
        })

    of_function : GrowsWith r (with_symbol r.symbols one) roots entries made
    of_function = function_by (known_or_new one r.symbols)

  -- the same, after what is mentioned already
  of_derived : (r : Registered) (m : MeantType) → GrowsWith r (with_type r.symbols m) roots entries m → (g : DerivedFunc)
      → GrowsWith r (with_type r.symbols (derived_by (function_of g) m)) roots entries (derived_by (function_of g) m)
  of_derived r m h g =
      let now : Registered = record { vars = h.vars; symbols = with_type r.symbols m } in
      let next = of_function now m h.number h.serves h.is g in
      subst (λ (ss : List Symbol). GrowsWith r ss roots entries (derived_by (function_of g) m))
      (sym (with_derived r.symbols m (function_of g)))
      (record {
        vars = next.vars;
        serves = next.serves;
        extends = extends_more r now (record {
          vars = next.vars;
          symbols = with_symbol (with_type r.symbols m) (symbol_of (derived_by (function_of g) m));
        }) h.extends next.extends;
        number = next.number;
        is = next.is;
      })

-- ---- a type that is meant

-- where a type is meant there is a registry that has it
abbrev pub Mentions : Registered → List MeantRoot → List Entry → Result MeantType Reason → Type 0
Mentions r roots entries (Ok m) = GrowsWith r (with_type r.symbols m) roots entries m
Mentions r roots entries (Err reason) = Unit {0}

module _ (r : Registered) (roots : List MeantRoot) (entries : List Entry) (h : Serves r roots entries) where
  mentions_derived : (w : List ℕ) (fs : List DerivedFunc) (f : DerivedFunc) (a : Result MeantType Reason) → Mentions r roots entries a
      → Mentions r roots entries (a >>= derive_at w fs f)
  mentions_derived w fs f (Err reason) g = tt
  mentions_derived w fs f (Ok m) g = by (may_be_derived_from m) (has_long_name m) (can_derive (function_of f) m.set)
    where
      by : (room long can : Bool) → Mentions r roots entries (cond room (cond long (Err (LongName w))
          (found_or (CannotDerive f fs w) (cond can (Some (derived_by (function_of f) m)) None))) (Err (TooDeep f w)))
      by true false true = of_derived roots entries r m g f
      by true false false = tt
      by true true can = tt
      by false long can = tt

  mentions_along : (w : List ℕ) (fs : List DerivedFunc) (a : Result MeantType Reason) → Mentions r roots entries a
      → Mentions r roots entries (derived_from w fs a)
  mentions_along w [] a g = g
  mentions_along w (f ∷ fs) a g = mentions_derived w fs f (derived_from w fs a) (mentions_along w fs a g)

  mentions_sense : (w : List ℕ) (o : Option Sense) → IfSome o (IsThere r) → Mentions r roots entries (type_in w o)
  mentions_sense w None g = tt
  mentions_sense w (Some (TypeSense m)) g = of_word roots entries r m g.0 h g.1
  mentions_sense w (Some (KindSense k)) g = tt

  -- a word that items declare
  pub entry_there : (w : List ℕ) (es : List Entry) → All (λ (e : Entry). IsThere r e.sense) es
      → IfSome (option_map (λ (e : Entry). e.sense) (entry_of es w)) (IsThere r)
  entry_there w [] g = tt
  entry_there w (e ∷ es) g = by (same_word w e.word) (entry_there w es (All-tail (λ (x : Entry). IsThere r x.sense) e es g))
    where
      by : (b : Bool) → IfSome (option_map (λ (e : Entry). e.sense) (entry_of es w)) (IsThere r)
          → IfSome (option_map (λ (e : Entry). e.sense) (cond b (Some e) (entry_of es w))) (IsThere r)
      by true more = All-head (λ (x : Entry). IsThere r x.sense) e es g
      by false more = more

  pub mentions_named : (w : List ℕ) → Mentions r roots entries (type_named entries w)
  unfolding type_named
  mentions_named w = by (plain_type w) (given_kind w)
    where
      by : (p : Option TypeParts) (k : Option GivenKind) → Mentions r roots entries (type_in w
          (option_or (option_map (λ t. TypeSense (plain t)) p)
          (option_or (option_map (λ k. KindSense (kind_given k)) k) (option_map (λ e. e.sense) (entry_of entries w)))))
      by (Some t) k = of_plain roots entries r t h
      by None (Some k) = tt
      by None None = mentions_sense w (option_map (λ e. e.sense) (entry_of entries w)) (entry_there w entries h.words)

  pub mentions_type : (t : TypeExpr) → Mentions r roots entries (type_of entries t)
  unfolding type_of
  mentions_type t = mentions_along t.word t.functions (type_named entries t.word) (mentions_named t.word)

  -- without the type
  abbrev pub grows_by : (a : Result MeantType Reason) → Mentions r roots entries a → Grows r (with_meant r.symbols a) roots entries
  grows_by (Ok m) g = record { vars = g.vars; serves = g.serves; extends = g.extends }
  grows_by (Err reason) g = grows_not r roots entries h

-- ---- kinds

-- a kind of any registry
pub kind_there : (r : Registered) (k : MeantKind) (f : OperandKindFields) → AreFieldsIn r k.sort f
    → (kind : OperandKind) × IsKindIn r k kind
kind_there r k f h = (
  record { rust_field_name = k.field; rust_type = k.rust; fields = f; doc = Some k.doc },
  record { field = refl; rust = refl; sort = h; doc = refl },
)

pub given_there : (r : Registered) (k : GivenKind) → (kind : OperandKind) × IsKindIn r (kind_given k) kind
given_there r given.Block = kind_there r (kind_given given.Block) fields.EntityRef refl
given_there r given.RawBlock = kind_there r (kind_given given.RawBlock) fields.EntityRef refl
given_there r given.Varargs = kind_there r (kind_given given.Varargs) fields.VariableArgs refl
