-- What functions derive from a type.
use Rattle.std.proofs.Common.{◌≡◌, ◌∙◌, ◌<◌, ◌≤◌, ◌+◌, ℕ, zero, suc, List, [], ◌∷◌, ◌++◌, length, drop, slice_get, sym, ap, subst, refl}
use Rattle.std.proofs.Common.{arith}
use Rattle.std.proofs.Common.{Bool, true, false, cond, inl, inr, ⊎_elim}
use Rattle.std.specs.Prelude.{Some, None, Result, Ok, Err, IfOk, OnOk, is_some, not, nat_lt, ◌⊎◌}
use Rattle.std.proofs.lemmas.Bool.{cases_lt}
use Rattle.std.proofs.Math.Seq.{drop-length}
use Rattle.std.proofs.lemmas.List.{length-append}
use Rattle.std.proofs.lemmas.Option.{same_Some}
use Rattle.std.proofs.lemmas.Result.{IfOk-at_ok}
use Rattle.meta_lists.proofs.Places.{get_there, drop_next}
use Rattle.meta_lists.proofs.Pushed.{not_empty}
use Rattle.meta_types.specs.Function.{Function}
use Rattle.meta_types.specs.TypeParts.{TypeParts}
use Rattle.meta_types.specs.DerivedFunc.{function_of}
use Rattle.meta_types.specs.declared.derived_func.DerivedFunc.{DerivedFunc}
use Rattle.meta_typevar.specs.Variable.{Variable, longer}
use Rattle.meta_typevar.specs.Image.{can_derive}
use Rattle.meta_typevar.specs.Registry.{variable_at, coded_at, derived_content, IsKept}
use Rattle.meta_typevar.specs.Derivation.{Derives}
use Rattle.meta_typevar.specs.TypeSetParts.{TypeSetParts}
use Rattle.meta_typevar.specs.declared.content.TypeVarContent.{TypeVarContent}
use Rattle.meta_file_syntax.specs.declared.types.TypeExpr.{TypeExpr}
use Rattle.meta_file_types.specs.declared.plain.PlainRoot.{PlainRoot}
use Rattle.meta_file_types.specs.declared.refused.Reason.{Reason}
use Rattle.meta_file_types.specs.declared.refused.Reason.TheVariants.{CannotDerive, TooDeep, LongName, LikeDerived}
use Rattle.meta_file_types.specs.declared.refused.ItemError.{ItemError}
use Rattle.meta_file_types.specs.declared.refused.ItemError.TheVariants.{Memory, Wrong}
use Rattle.meta_file_types.specs.declared.words.Words.{Words}
use Rattle.meta_file_types.specs.Meant.{Root, Declared, Plain, MeantType, MeantRoot, is_underived, derived_by}
use Rattle.meta_file_types.specs.Symbols.{Symbol, symbol, symbol_of, with_symbol, with_type}
use Rattle.meta_file_types.specs.Words.{Entry, entry_of, most_functions, may_be_derived_from, longest_name}
use Rattle.meta_file_types.specs.Words.{has_long_name, derive_at, derived_from, type_named, type_of, root_set, set_like}
use Rattle.meta_file_types.specs.Depth.{depth_at, root_name_at}
use Rattle.meta_file_types.specs.Said.{Said, mentioning}
use Rattle.meta_file_types.specs.declared.types.Types.{Types}
use Rattle.meta_file_types.specs.Telling.{◌>>=◌, found_or, Fails, IsMeant, Tells}
use Rattle.meta_file_types.specs.Registered.{Registered, IsNumberOf, IsRootAt, IsDerivedAt, IsVariableAt, IsRegistryOf, IsTypeIn, Extends}
use Rattle.meta_file_types.specs.Held.{registered, word_at, HoldsIn, Holds, IsMentioned}
use Rattle.meta_file_types.proofs.SameSymbol.{known_or_new, with_known, with_new}
use Rattle.meta_file_types.proofs.Mentioning.{with_derived}
use Rattle.meta_file_types.proofs.Staying.{extends_same, extends_more, variable_stays}
use Rattle.meta_file_types.proofs.Registry.{below, symbol_variable, with_one, extends_one}
use Rattle.meta_file_types.proofs.OneFunction.{derived_there, derived_back, known_type, made_registry, made_type}
use Rattle.meta_file_types.proofs.Growing.{word_stays, plain_other}
use Rattle.meta_file_types.proofs.Told.{fails_on}

-- ---- one function

-- what a function derives from a type, by whether it may have one function more, its root's name is long, and its set allows the function
abbrev derived_if : List ℕ → List DerivedFunc → DerivedFunc → MeantType → Bool → Bool → Bool → Result MeantType Reason
derived_if word fs f m room long can =
    cond room
    (cond long (Err (LongName word)) (found_or (CannotDerive f fs word) (cond can (Some (derived_by (function_of f) m)) None)))
    (Err (TooDeep f word))

derive_by : (word : List ℕ) (fs : List DerivedFunc) (f : DerivedFunc) (m : MeantType) (room long can : Bool) → may_be_derived_from m ≡ room → has_long_name m ≡ long
    → can_derive (function_of f) m.set ≡ can → derive_at word fs f m ≡ derived_if word fs f m room long can
derive_by word fs f m room long can r l e =
    ap (λ (b : Bool). derived_if word fs f m b (has_long_name m) (can_derive (function_of f) m.set)) r
    ∙ (ap (λ (b : Bool). derived_if word fs f m room b (can_derive (function_of f) m.set)) l
    ∙ ap (derived_if word fs f m room long) e)

-- whether the type that a variable stands for may have one function more, by the variable
room_meant : (t : Types) (s : Said) (m : MeantType) (n : ℕ) → IsMentioned t s m n → (room : Bool)
    → room ≡ nat_lt (depth_at t.vars n) most_functions → may_be_derived_from m ≡ room
room_meant t s m n h room e =
    let r = registered t (mentioning s (Ok m)) in
    let v = symbol_variable r s.roots h.holds.registry (symbol_of m) n h.type_is.number in
    ap (λ (w : Variable). nat_lt (length w.chain) most_functions) (sym v.variable) ∙ sym e

-- whether the name of its root is too long, by the variable
long_meant : (t : Types) (s : Said) (m : MeantType) (n : ℕ) → IsMentioned t s m n → (long : Bool)
    → long ≡ nat_lt longest_name (length (root_name_at t.vars n)) → has_long_name m ≡ long
long_meant t s m n h long e = ap (λ (name : List ℕ). nat_lt longest_name (length name)) (sym h.type_is.name) ∙ sym e

-- what holds after one function: what is kept, which type it is, and that the registry grew
pub record IsStep (old new : Registered) (known : List PlainRoot) (words : Words) (roots : List MeantRoot) (entries : List Entry)
    (m : MeantType)
    (v : ℕ) : Type 0 where
  pub held : HoldsIn new known words roots entries
  pub is : IsTypeIn new m v
  pub extends : Extends old new

ok_same : {E : Type 0} (result : Result ℕ E) (v n : ℕ) → result ≡ Ok v → result ≡ Ok n → v ≡ n
ok_same {E} result v n e f = IfOk-at_ok (λ k. k ≡ n) e (subst (λ (r : Result ℕ E). IfOk r (λ k. k ≡ n)) (sym f) refl)

module _ (vars : List TypeVarContent) (symbols : List Symbol) (known : List PlainRoot) (words : Words) (roots : List MeantRoot)
    (entries : List Entry) (h : HoldsIn (record { vars = vars; symbols = symbols }) known words roots entries)
    (m : MeantType) (n : ℕ) (is : IsTypeIn (record { vars = vars; symbols = symbols }) m n) (g : DerivedFunc) where
  abbrev now : Registered
  now = record { vars = vars; symbols = symbols }

  abbrev f : Function
  f = function_of g

  abbrev made : MeantType
  made = derived_by f m

  abbrev one : Symbol
  one = symbol_of made

  -- the variable of the symbol is what is derived
  there : (k : ℕ) → IsNumberOf now one k → variable_at vars k ≡ longer (variable_at vars n) f
  there k at = derived_there now roots h.registry m n is g k at

  -- and what is derived is the variable of the symbol
  back : (k : ℕ) → k < length vars → variable_at vars k ≡ longer (variable_at vars n) f → IsNumberOf now one k
  back k l e = derived_back now roots h.registry m n is g k l e

  abbrev IsStepTo : List TypeVarContent → List Symbol → ℕ → Type 0
  IsStepTo new ss v = IsStep now (record { vars = new; symbols = ss }) known words roots entries made v

  -- where it is there
  step_known : (k : ℕ) → IsNumberOf now one k → IsStepTo vars symbols k
  step_known k at = record { held = h; is = known_type now roots h.registry m n is g k at; extends = extends_same now }

  -- where it is made
  module _ (new_one : (k : ℕ) → IsNumberOf now one k → ⊥) (c : TypeVarContent) (kept : IsKept vars n c) where
    abbrev content : TypeVarContent
    content = derived_content vars n c g

    abbrev after : Registered
    after = with_one now content one

    other : (t : TypeParts) → one ≡ symbol (Plain t) [] → ⊥
    other t e = not_empty m.functions f (ap (λ (s : Symbol). s.functions) e)

    step_made : (v : ℕ) → v ≡ length vars → IsStepTo (vars ++ content ∷ []) (symbols ++ one ∷ []) v
    step_made v e = record {
      held = record {
        registry = made_registry now roots h.registry m n is g new_one c kept;
        plain_are = plain_other now known content one h.plain_are other;
        words_are = λ w. word_stays now after (extends_one now content one) (entry_of entries w) (word_at words w) (h.words_are w);
      };
      is = subst (IsTypeIn after made) (sym e) (made_type now roots h.registry m n is g new_one c kept);
      extends = extends_one now content one;
    }

  step_by : {E : Type 0} (new : List TypeVarContent) (result : Result ℕ E) (v : ℕ) → Derives vars n g result new → result ≡ Ok v
      → (((k : ℕ) × IsNumberOf now one k) ⊎ ((k : ℕ) → IsNumberOf now one k → ⊥)) → IsStepTo new (with_symbol symbols one) v
  step_by new result v d e (inl found) =
      let told = d.known found.0 (below now roots h.registry one found.0 found.1) (there found.0 found.1) in
      let number : v ≡ found.0 = ok_same result v found.0 e told.0 in
      subst (λ (vs : List TypeVarContent). IsStepTo vs (with_symbol symbols one) v) (sym told.1)
      (subst (λ (ss : List Symbol). IsStepTo vars ss v) (sym (with_known one symbols found.0 found.1))
      (subst (λ (k : ℕ). IsStepTo vars symbols k) (sym number) (step_known found.0 found.1)))
  step_by new result v d e (inr none) =
      let (c, kept) = get_there vars n is.of in
      let end : new ≡ vars ++ derived_content vars n c g ∷ [] =
      IfOk-at_ok (λ _. new ≡ vars ++ derived_content vars n c g ∷ []) e (d.added (λ k l there. none k (back k l there)) c kept) in
      let answer : (v < length new) × (variable_at new v ≡ longer (variable_at vars n) f) =
      IfOk-at_ok (λ k. (k < length new) × (variable_at new k ≡ longer (variable_at vars n) f)) e d.answer in
      let variable : variable_at (vars ++ derived_content vars n c g ∷ []) v ≡ longer (variable_at vars n) f =
      ap (λ (vs : List TypeVarContent). variable_at vs v) (sym end) ∙ answer.1 in
      let count : length new ≡ length vars + 1 = ap length end ∙ length-append vars (derived_content vars n c g ∷ []) in
      let below_new : v < length new = answer.0 in
      subst (λ (vs : List TypeVarContent). IsStepTo vs (with_symbol symbols one) v) (sym end)
      (subst (λ (ss : List Symbol). IsStepTo (vars ++ derived_content vars n c g ∷ []) ss v) (sym (with_new one symbols none))
      (step_made none c kept v
      (⊎_elim
      (λ (l : v < length vars). absurd (none v (back v l (sym (variable_stays vars (derived_content vars n c g ∷ []) v l) ∙ variable))))
      (λ (l : length vars ≤ v). omega arith) (cases_lt v (length vars)))))

-- ---- what a function tells of one function

-- whether the set of the type allows the function, by the variable
set_meant : (t : Types) (s : Said) (m : MeantType) (n : ℕ) → IsMentioned t s m n → (g : DerivedFunc) (w : DerivedFunc)
    → function_of g ≡ function_of w → (can : Bool) → can ≡ can_derive (function_of g) (coded_at t.vars n)
    → can_derive (function_of w) m.set ≡ can
set_meant t s m n h g w same can e =
    ap (λ (f : Function). can_derive f m.set) (sym same) ∙ (ap (can_derive (function_of g)) (sym h.type_is.set) ∙ sym e)

pub derive_deep : (t : Types) (s : Said) (m : MeantType) (n : ℕ) → IsMentioned t s m n → (word : List ℕ) (fs : List DerivedFunc) (w : DerivedFunc)
    → false ≡ nat_lt (depth_at t.vars n) most_functions → derive_at word fs w m ≡ Err (TooDeep w word)
derive_deep t s m n h word fs w deep = derive_by word fs w m false _ _ (room_meant t s m n h false deep) refl refl

pub derive_long : (t : Types) (s : Said) (m : MeantType) (n : ℕ) → IsMentioned t s m n → (word : List ℕ) (fs : List DerivedFunc) (w : DerivedFunc)
    → true ≡ nat_lt (depth_at t.vars n) most_functions → true ≡ nat_lt longest_name (length (root_name_at t.vars n))
    → derive_at word fs w m ≡ Err (LongName word)
derive_long t s m n h word fs w room long =
    derive_by word fs w m true true _ (room_meant t s m n h true room) (long_meant t s m n h true long) refl

pub derive_refused : (t : Types) (s : Said) (m : MeantType) (n : ℕ) → IsMentioned t s m n → (word : List ℕ) (fs : List DerivedFunc) (w : DerivedFunc) (g : DerivedFunc)
    → function_of g ≡ function_of w → true ≡ nat_lt (depth_at t.vars n) most_functions
    → false ≡ nat_lt longest_name (length (root_name_at t.vars n)) → false ≡ can_derive (function_of g) (coded_at t.vars n)
    → derive_at word fs w m ≡ Err (CannotDerive w fs word)
derive_refused t s m n h word fs w g same room short test =
    derive_by word fs w m true false false (room_meant t s m n h true room) (long_meant t s m n h false short)
    (set_meant t s m n h g w same false test)

module _ (old : Types) (new : List TypeVarContent) (s : Said) (m : MeantType) (n : ℕ) (h : IsMentioned old s m n) (g : DerivedFunc)
    (word : List ℕ) (fs : List DerivedFunc) (w : DerivedFunc) (same : function_of g ≡ function_of w) (room : true ≡ nat_lt (depth_at old.vars n) most_functions)
    (short : false ≡ nat_lt longest_name (length (root_name_at old.vars n)))
    (test : true ≡ can_derive (function_of g) (coded_at old.vars n)) where
  abbrev grown : Types
  grown = record { vars = new; plain = old.plain; words = old.words }

  abbrev derived : MeantType
  derived = derived_by (function_of g) m

  can : derive_at word fs w m ≡ Ok derived
  can =
      derive_by word fs w m true false true (room_meant old s m n h true room) (long_meant old s m n h false short)
      (set_meant old s m n h g w same true test)
      ∙ ap (λ (f : Function). Ok (derived_by f m)) (sym same)

  step : {E : Type 0} (result : Result ℕ E) (v : ℕ) → Derives old.vars n g result new → result ≡ Ok v
      → IsStep (registered old (mentioning s (Ok m))) (registered grown (mentioning s
      (Ok derived))) old.plain.items old.words s.roots s.words
      derived v
  step result v d e =
      subst (λ (ss : List Symbol). IsStep (registered old (mentioning s (Ok m))) (record { vars = new; symbols = ss })
      old.plain.items old.words s.roots s.words derived v) (sym (with_derived s.symbols m (function_of g)))
      (step_by old.vars (with_type s.symbols m) old.plain.items old.words s.roots s.words h.holds m n h.type_is g new result v d e
      (known_or_new (symbol_of derived) (with_type s.symbols m)))

  pub derive_means : {E : Type 0} (result : Result ℕ E) (v : ℕ) → Derives old.vars n g result new → result ≡ Ok v
      → IsMeant (IsMentioned grown s) v (derive_at word fs w m)
  derive_means result v d e =
      let h = step result v d e in
      record { meaning = derived; is = can; by = record { holds = h.held; type_is = h.is } }

  pub derive_extends : {E : Type 0} (result : Result ℕ E) (v : ℕ) → Derives old.vars n g result new → result ≡ Ok v
      → Extends (registered old (mentioning s (Ok m))) (registered grown (mentioning s (derive_at word fs w m)))
  derive_extends result v d e =
      subst (λ (a : Result MeantType Reason). Extends (registered old (mentioning s (Ok m))) (registered grown (mentioning s a))) (sym can)
      (step result v d e).extends

-- ---- some functions

pub derived_fails : (w : List ℕ) (fs : List DerivedFunc) (reason : Reason) → derived_from w fs (Err reason) ≡ Err reason
derived_fails w [] reason = refl
derived_fails w (f ∷ fs) reason = ap (λ (a : Result MeantType Reason). a >>= derive_at w fs f) (derived_fails w fs reason)

pub fails_along : (e : ItemError) (a : Result MeantType Reason) (w : List ℕ) (fs : List DerivedFunc) → Fails e a → Fails e (derived_from w fs a)
fails_along Memory a w fs h = tt
fails_along (Wrong reason) a w fs h = ap (derived_from w fs) h ∙ derived_fails w fs reason

-- the last ones fail
pub last_fails : (k : ℕ) (w : List ℕ) (fs : List DerivedFunc) (a : Result MeantType Reason) (reason : Reason)
    → derived_from w (drop k fs) a ≡ Err reason → derived_from w fs a ≡ Err reason
last_fails zero w fs a reason h = h
last_fails (suc k) w [] a reason h = h
last_fails (suc k) w (f ∷ fs) a reason h =
    ap (λ (b : Result MeantType Reason). b >>= derive_at w fs f) (last_fails k w fs a reason h)

-- one function more
pub derived_next : (k : ℕ) (w : List ℕ) (fs gs : List DerivedFunc) (f : DerivedFunc) (a : Result MeantType Reason) → slice_get fs k ≡ Some f
    → gs ≡ drop (k + 1) fs → derived_from w (drop k fs) a ≡ derived_from w gs a >>= derive_at w gs f
derived_next k w fs gs f a at rest =
    ap (λ (hs : List DerivedFunc). derived_from w hs a) (drop_next fs k f at ∙ ap (λ (hs : List DerivedFunc). f ∷ hs) (sym rest))

-- what the functions from a place on derived: which type it is, and that the registry grew
pub record IsAlong (old new : Types) (s : Said) (m : MeantType) (meant : Result MeantType Reason) (v : ℕ) : Type 0 where
  pub meaning : MeantType
  pub is : meant ≡ Ok meaning
  pub mentioned : IsMentioned new s meaning v
  pub extends : Extends (registered old (mentioning s (Ok m))) (registered new (mentioning s (Ok meaning)))

-- none
pub along_start : (old : Types) (s : Said) (m : MeantType) (n : ℕ) (w : List ℕ) (fs : List DerivedFunc) → IsMentioned old s m n
    → IsAlong old old s m (derived_from w (drop (length fs) fs) (Ok m)) n
along_start old s m n w fs h = record {
  meaning = m;
  is = ap (λ (gs : List DerivedFunc). derived_from w gs (Ok m)) (drop-length fs);
  mentioned = h;
  extends = extends_same (registered old (mentioning s (Ok m)));
}

-- one more
module _ (old now : Types) (s : Said) (m : MeantType) (k : ℕ) (w : List ℕ) (fs gs : List DerivedFunc) (f : DerivedFunc) (at : slice_get fs k ≡ Some f)
    (rest : gs ≡ drop (k + 1) fs) (u : ℕ) (a : IsAlong old now s m (derived_from w (drop (k + 1) fs) (Ok m)) u) where
  before : derived_from w gs (Ok m) ≡ Ok a.meaning
  before = ap (λ (hs : List DerivedFunc). derived_from w hs (Ok m)) rest ∙ a.is

  further : derived_from w (drop k fs) (Ok m) ≡ derive_at w gs f a.meaning
  further = derived_next k w fs gs f (Ok m) at rest ∙ ap (λ (b : Result MeantType Reason). b >>= derive_at w gs f) before

  pub along_next : (new : Types) (v : ℕ) → IsMeant (IsMentioned new s) v (derive_at w gs f a.meaning)
      → Extends (registered now (mentioning s (Ok a.meaning))) (registered new (mentioning s (derive_at w gs f a.meaning)))
      → IsAlong old new s m (derived_from w (drop k fs) (Ok m)) v
  along_next new v h e = record {
    meaning = h.meaning;
    is = further ∙ h.is;
    mentioned = h.by;
    extends = extends_more (registered old (mentioning s (Ok m))) (registered now (mentioning s (Ok a.meaning)))
        (registered new (mentioning s (Ok h.meaning))) a.extends
        (subst (λ (b : Result MeantType Reason). Extends (registered now (mentioning s (Ok a.meaning))) (registered new
        (mentioning s b))) h.is e);
  }

-- the next one cannot be applied
pub along_fails : (old now : Types) (s : Said) (m : MeantType) (place k : ℕ) → k + 1 ≡ place → (w : List ℕ) (fs gs : List DerivedFunc) (u : ℕ)
    (a : IsAlong old now s m (derived_from w (drop place fs) (Ok m)) u) (e : ItemError) (f : DerivedFunc)
    → Fails e (derive_at w gs f a.meaning) → slice_get fs k ≡ Some f → gs ≡ drop (k + 1) fs → Fails e (derived_from w fs (Ok m))
along_fails old now s m place k next w fs gs u a Memory f h at rest = tt
along_fails old now s m place k next w fs gs u a (Wrong reason) f h at rest =
    let first : derived_from w gs (Ok m) ≡ Ok a.meaning =
    ap (λ (hs : List DerivedFunc). derived_from w hs (Ok m)) rest ∙ (ap (λ (j : ℕ). derived_from w (drop j fs) (Ok m)) next ∙ a.is) in
    let further : derived_from w (drop k fs) (Ok m) ≡ derive_at w gs f a.meaning =
    derived_next k w fs gs f (Ok m) at rest ∙ ap (λ (b : Result MeantType Reason). b >>= derive_at w gs f) first in
    last_fails k w fs (Ok m) reason (further ∙ h)

-- all
pub along_means : (old new : Types) (s : Said) (m : MeantType) (a : Result MeantType Reason) (v : ℕ) → IsAlong old new s m a v
    → IsMeant (IsMentioned new s) v a
along_means old new s m a v h = record { meaning = h.meaning; is = h.is; by = h.mentioned }

pub along_extends : (old new : Types) (s : Said) (m : MeantType) (a : Result MeantType Reason) (v : ℕ) → IsAlong old new s m a v
    → Extends (registered old (mentioning s (Ok m))) (registered new (mentioning s a))
along_extends old new s m a v h =
    subst (λ (b : Result MeantType Reason). Extends (registered old (mentioning s (Ok m))) (registered new (mentioning s b)))
    (sym h.is) h.extends

-- ---- a type expression

pub type_fails : (e : ItemError) (entries : List Entry) (t : TypeExpr) → Fails e (type_named entries t.word) → Fails e (type_of entries t)
unfolding type_of
type_fails e entries t h = fails_along e (type_named entries t.word) t.word t.functions h

-- by its word and its functions
module _ (old now : Types) (s : Said) (t : TypeExpr) (n : ℕ) (w : List ℕ) (w_is : w ≡ t.word) (fs : List DerivedFunc) (fs_are : fs ≡ t.functions)
    (named : IsMeant (IsTypeIn (registered now (mentioning s (type_named s.words w)))) n (type_named s.words w))
    (held : Holds now (mentioning s (type_named s.words w))) where
  pub root_mentioned : IsMentioned now s named.meaning n
  root_mentioned = record {
    holds = subst (λ (a : Result MeantType Reason). Holds now (mentioning s a)) named.is held;
    type_is = subst (λ (a : Result MeantType Reason). IsTypeIn (registered now (mentioning s a)) named.meaning n) named.is named.by;
  }

  type_is : type_of s.words t ≡ derived_from w fs (Ok named.meaning)
  unfolding type_of
  type_is =
      ap (λ (gs : List DerivedFunc). derived_from t.word gs (type_named s.words t.word)) (sym fs_are)
      ∙ (ap (λ (v : List ℕ). derived_from v fs (type_named s.words v)) (sym w_is)
      ∙ ap (derived_from w fs) named.is)

  mentioned_means : (new : Types) (v : ℕ) → IsMeant (IsMentioned new s) v (derived_from w fs (Ok named.meaning))
      → IsMeant (IsMentioned new s) v (type_of s.words t)
  mentioned_means new v h = record { meaning = h.meaning; is = type_is ∙ h.is; by = h.by }

  pub type_means : (new : Types) (result : Result ℕ ItemError)
      → Tells (IsMentioned new s) result (derived_from w fs (Ok named.meaning))
      → Tells (IsTypeIn (registered new (mentioning s (type_of s.words t)))) result (type_of s.words t)
  type_means new (Ok v) h =
      let d = mentioned_means new v h in
      record {
        meaning = d.meaning;
        is = d.is;
        by = subst (λ (a : Result MeantType Reason). IsTypeIn (registered new (mentioning s a)) d.meaning v) (sym d.is) d.by.type_is;
      }
  type_means new (Err Memory) h = tt
  type_means new (Err (Wrong reason)) h = type_is ∙ h

  pub type_holds : (new : Types) (result : Result ℕ ItemError)
      → Tells (IsMentioned new s) result (derived_from w fs (Ok named.meaning))
      → OnOk result (Holds new (mentioning s (type_of s.words t)))
  type_holds new (Ok v) h =
      let d = mentioned_means new v h in
      subst (λ (a : Result MeantType Reason). Holds new (mentioning s a)) (sym d.is) d.by.holds
  type_holds new (Err e) h = tt

  pub type_extends : (new : Types) (result : Result ℕ ItemError)
      → Extends (registered old s) (registered now (mentioning s (type_named s.words w)))
      → OnOk result (Extends (registered now (mentioning s (Ok named.meaning)))
      (registered new (mentioning s (derived_from w fs (Ok named.meaning)))))
      → OnOk result (Extends (registered old s) (registered new (mentioning s (type_of s.words t))))
  type_extends new (Ok v) e h =
      extends_more (registered old s) (registered now (mentioning s (type_named s.words w))) (registered new (mentioning s
      (type_of s.words t))) e
      (subst (λ (a : Result MeantType Reason). Extends (registered now (mentioning s a)) (registered new (mentioning s
      (type_of s.words t))))
      (sym named.is)
      (subst (λ (a : Result MeantType Reason). Extends (registered now (mentioning s (Ok named.meaning))) (registered new (mentioning s a)))
      (sym type_is) h))
  type_extends new (Err e) f h = tt

-- ---- roots

no_functions : (fs : List Function) → fs ≡ [] → (m : MeantType) → is_underived (record m { functions = fs }) ≡ true
no_functions [] e m = refl
no_functions (f ∷ fs) e m = absurd (cc)

some_functions : (fs : List Function) (g : Function) (gs : List Function) → fs ≡ g ∷ gs → (m : MeantType)
    → is_underived (record m { functions = fs }) ≡ false
some_functions [] g gs e m = absurd (cc)
some_functions (f ∷ fs) g gs e m = refl

module _ (r : Registered) (roots : List MeantRoot) (h : IsRegistryOf r roots) (m : MeantType) (n : ℕ) (is : IsTypeIn r m n)
    (c : TypeVarContent)
    (kept : IsKept r.vars n c) where
  content_is : (d : TypeVarContent) → IsKept r.vars n d → c ≡ d
  content_is d e = same_Some c d (sym kept ∙ e)

  root_base : (a : Root) → IsRootAt r.vars roots a n → is_some c.base ≡ false
  root_base (Declared k) d = ap (λ (x : TypeVarContent). is_some x.base) (content_is _ d.kept)
  root_base (Plain t) at = ap (λ (x : TypeVarContent). is_some x.base) (content_is _ at)

  derived_base : (s : Symbol) → IsDerivedAt r s n → is_some c.base ≡ true
  derived_base s d = ap (λ (x : TypeVarContent). is_some x.base) (content_is d.content d.kept ∙ d.derived.is)

  -- a variable without a parent is a root, and one with a parent isn't
  pub root_or_not : is_underived m ≡ not (is_some c.base)
  root_or_not = by m.functions refl (h.variables (symbol_of m) n is.number)
    where
      by : (fs : List Function) → m.functions ≡ fs → IsVariableAt r roots (symbol_of m) fs n → is_underived m ≡ not (is_some c.base)
      by [] e v = no_functions m.functions e m ∙ sym (ap not (root_base m.root v))
      by (f ∷ fs) e v = some_functions m.functions f fs e m ∙ sym (ap not (derived_base (symbol_of m) v))

-- ---- the set of another

module _ (r : Registered) (roots : List MeantRoot) (registry : IsRegistryOf r roots) (entries : List Entry) (w : List ℕ) (n : ℕ)
    (named : IsMeant (IsTypeIn r) n (type_named entries w)) (c : TypeVarContent) (kept : IsKept r.vars n c) where
  like_is : (b : Bool) → b ≡ is_some c.base → set_like entries w ≡ cond (not b) (Ok named.meaning.set) (Err (LikeDerived w))
  like_is b test =
      ap (λ (a : Result MeantType Reason). a >>= root_set w) named.is
      ∙ ap (λ (d : Bool). cond d (Ok named.meaning.set) (Err (LikeDerived w)))
      (root_or_not r roots registry named.meaning n named.by c kept ∙ ap not (sym test))

  pub like_root : (s : TypeSetParts) → false ≡ is_some c.base → s ≡ coded_at r.vars n → IsMeant (λ s x. x ≡ s) s (set_like entries w)
  like_root s test e = record { meaning = named.meaning.set; is = like_is false test; by = e ∙ named.by.set }

  pub like_derived : true ≡ is_some c.base → set_like entries w ≡ Err (LikeDerived w)
  like_derived test = like_is true test

pub like_fails : (e : ItemError) (entries : List Entry) (w : List ℕ) → Fails e (type_named entries w) → Fails e (set_like entries w)
like_fails e entries w h = fails_on e (type_named entries w) (root_set w) h
