-- What symbols say of the variables of a registry.
use Rattle.std.proofs.Common.{◌≡◌, ◌∙◌, ◌<◌, ◌≤◌, ◌+◌, ℕ, zero, suc, List, [], ◌∷◌, ◌++◌, length, slice_get, sym, ap, subst, refl, arith}
use Rattle.std.proofs.Common.{inl, inr}
use Rattle.std.specs.Prelude.{Some, ◌⊎◌}
use Rattle.std.proofs.lemmas.List.{length-append, append-nil}
use Rattle.std.proofs.lemmas.Option.{slice_get_within, same_Some}
use Rattle.meta_lists.proofs.Places.{get_there, get_stays}
use Rattle.meta_lists.proofs.Pushed.{get_pushed, get_end}
use Rattle.meta_types.specs.Function.{Function}
use Rattle.meta_types.specs.DerivedFunc.{function_of}
use Rattle.meta_types.specs.declared.derived_func.DerivedFunc.{DerivedFunc}
use Rattle.meta_typevar.specs.Variable.{Variable, longer}
use Rattle.meta_typevar.specs.TypeSetParts.{TypeSetParts}
use Rattle.meta_typevar.specs.Registry.{variable_from, variable_at, set_at, coded_of, root_content, derived_content, IsKept}
use Rattle.meta_typevar.specs.declared.content.TypeVarContent.{TypeVarContent}
use Rattle.meta_file_types.specs.Meant.{Root, Declared, Plain, MeantRoot, root_type}
use Rattle.meta_file_types.specs.Symbols.{Symbol, symbol}
use Rattle.meta_file_types.specs.Registered.{Registered, IsNumberOf, IsRootAt, IsDerivedAt, IsVariableAt, IsRegistryOf, IsTypeIn, Extends}
use Rattle.meta_file_types.specs.Depth.{name_from}
use Rattle.meta_file_types.proofs.Staying.{number_stays, coded_stays}

-- a number is that of a variable
pub below : (r : Registered) (roots : List MeantRoot) → IsRegistryOf r roots → (s : Symbol) (n : ℕ) → IsNumberOf r s n → n < length r.vars
below r roots h s n at =
    let l : n < length r.symbols = slice_get_within r.symbols n s at in
    let count : length r.vars ≡ length r.symbols = h.count in
    omega arith

-- ---- the variable of a symbol

-- its root is that of the symbol, and its functions are those of the symbol
pub record IsOfSymbol (r : Registered) (s : Symbol) (n : ℕ) : Type 0 where
  pub root : ℕ
  pub root_is : IsNumberOf r (symbol s.root []) root
  pub variable : variable_at r.vars n ≡ record { root = root; chain = s.functions }

root_variable : (vars : List TypeVarContent) (roots : List MeantRoot) (a : Root) (n : ℕ) → IsRootAt vars roots a n
    → variable_at vars n ≡ record { root = n; chain = [] }
root_variable vars roots (Declared k) n h = ap (variable_from n) h.kept
root_variable vars roots (Plain t) n h = ap (variable_from n) h

derived_variable : (r : Registered) (s : Symbol) (n : ℕ) (d : IsDerivedAt r s n) (root : ℕ)
    → variable_at r.vars d.parent ≡ record { root = root; chain = d.before }
    → variable_at r.vars n ≡ record { root = root; chain = s.functions }
derived_variable r s n d root e =
    ap (variable_from n) (d.kept ∙ ap (λ (c : TypeVarContent). Some c) d.derived.is)
    ∙ (ap (λ (v : Variable). longer v (function_of d.last)) (sym (ap (variable_from d.parent) d.derived.kept) ∙ e)
    ∙ ap (λ (fs : List Function). record { root = root; chain = fs }) (sym d.functions))

-- by those of fewer functions
of_symbol_by : (r : Registered) (roots : List MeantRoot) (s : Symbol) (n : ℕ) → IsNumberOf r s n
    → ((t : Symbol) (m : ℕ) → length t.functions < length s.functions → IsNumberOf r t m → IsOfSymbol r t m)
    → (fs : List Function) → s.functions ≡ fs → IsVariableAt r roots s fs n → IsOfSymbol r s n
of_symbol_by r roots s n at shorter [] e v = record {
  root = n;
  root_is = subst (λ (fs : List Function). IsNumberOf r (symbol s.root fs) n) e at;
  variable = root_variable r.vars roots s.root n v ∙ ap (λ (fs : List Function). record { root = n; chain = fs }) (sym e);
}
of_symbol_by r roots s n at shorter (f ∷ fs) e d =
    let long : length s.functions ≡ length d.before + 1 = ap length d.functions ∙ length-append d.before (function_of d.last ∷ []) in
    let p = shorter (symbol s.root d.before) d.parent (omega arith) d.parent_is in
    record { root = p.root; root_is = p.root_is; variable = derived_variable r s n d p.root p.variable }

of_symbol : (r : Registered) (roots : List MeantRoot) → IsRegistryOf r roots → (k : ℕ) (s : Symbol) (n : ℕ) → length s.functions ≤ k
    → IsNumberOf r s n → IsOfSymbol r s n
of_symbol r roots h zero s n l at =
    of_symbol_by r roots s n at (λ t m fewer there. absurd (omega arith)) s.functions refl (h.variables s n at)
of_symbol r roots h (suc k) s n l at =
    of_symbol_by r roots s n at (λ t m fewer there. of_symbol r roots h k t m (omega arith) there) s.functions refl (h.variables s n at)

pub symbol_variable : (r : Registered) (roots : List MeantRoot) → IsRegistryOf r roots → (s : Symbol) (n : ℕ) → IsNumberOf r s n
    → IsOfSymbol r s n
symbol_variable r roots h s n at = of_symbol r roots h (length s.functions) s n (omega arith) at

pub root_below : (r : Registered) (roots : List MeantRoot) → IsRegistryOf r roots → (s : Symbol) (n : ℕ) → IsNumberOf r s n
    → (variable_at r.vars n).root < length r.vars
root_below r roots h s n at =
    let v = symbol_variable r roots h s n at in
    subst (λ (w : Variable). w.root < length r.vars) (sym v.variable) (below r roots h (symbol s.root []) v.root v.root_is)

-- the symbol of a variable, by its root and its functions
pub variable_symbol : (r : Registered) (roots : List MeantRoot) → IsRegistryOf r roots → (a : Root) (root : ℕ) (fs : List Function) (n : ℕ)
    → IsNumberOf r (symbol a []) root → n < length r.vars → variable_at r.vars n ≡ record { root = root; chain = fs }
    → IsNumberOf r (symbol a fs) n
variable_symbol r roots h a root fs n at l e =
    let count : length r.vars ≡ length r.symbols = h.count in
    let here = get_there r.symbols n (omega arith) in
    let t : Symbol = here.0 in
    let v = symbol_variable r roots h t n here.1 in
    let both : record { root = v.root; chain = t.functions } ≡ record { root = root; chain = fs } = sym v.variable ∙ e in
    let one : v.root ≡ root = ap (λ (w : Variable). w.root) both in
    let root_is : IsNumberOf r (symbol t.root []) root = subst (λ (k : ℕ). IsNumberOf r (symbol t.root []) k) one v.root_is in
    let same : symbol t.root [] ≡ symbol a [] = same_Some _ _ (sym root_is ∙ at) in
    let first : t.root ≡ a = ap (λ (s : Symbol). s.root) same in
    let functions : t.functions ≡ fs = ap (λ (w : Variable). w.chain) both in
    let is : t ≡ symbol a fs = λ i. record { root = first i; functions = functions i } in
    subst (λ (s : Symbol). IsNumberOf r s n) is here.1

-- ---- one symbol more

abbrev pub with_one : Registered → TypeVarContent → Symbol → Registered
with_one r c s = record { vars = r.vars ++ c ∷ []; symbols = r.symbols ++ s ∷ [] }

pub extends_one : (r : Registered) (c : TypeVarContent) (s : Symbol) → Extends r (with_one r c s)
extends_one r c s = record { more = c ∷ []; symbols_more = s ∷ []; vars = refl; symbols = refl }

pub content_stays : (vars more : List TypeVarContent) (n : ℕ) (c : TypeVarContent) (f : DerivedFunc) → n < length vars
    → (variable_at vars n).root < length vars → derived_content vars n c f ≡ derived_content (vars ++ more) n c f
content_stays vars more n c f l root =
    ap (λ (s : TypeSetParts). record (derived_content vars n c f) { type_set = s }) (sym (coded_stays vars more n l root))

derived_stays : (r : Registered) (roots : List MeantRoot) (c : TypeVarContent) (t : Symbol) → IsRegistryOf r roots → (s : Symbol) (n : ℕ)
    → IsDerivedAt r s n → IsDerivedAt (with_one r c t) s n
derived_stays r roots c t h s n d =
    let l = below r roots h (symbol s.root d.before) d.parent d.parent_is in
    let root = root_below r roots h (symbol s.root d.before) d.parent d.parent_is in
    record {
      before = d.before;
      last = d.last;
      parent = d.parent;
      content = d.content;
      functions = d.functions;
      parent_is = number_stays r (with_one r c t) (extends_one r c t) (symbol s.root d.before) d.parent d.parent_is;
      derived = record {
        parent = d.derived.parent;
        kept = get_stays r.vars (c ∷ []) d.parent d.derived.parent d.derived.kept;
        is = d.derived.is ∙ content_stays r.vars (c ∷ []) d.parent d.derived.parent d.last l root;
      };
      kept = get_stays r.vars (c ∷ []) n d.content d.kept;
    }

root_stays : (vars : List TypeVarContent) (c : TypeVarContent) (roots more : List MeantRoot) (a : Root) (n : ℕ) → IsRootAt vars roots a n
    → IsRootAt (vars ++ c ∷ []) (roots ++ more) a n
root_stays vars c roots more (Declared k) n h = record {
  root = h.root;
  at = get_stays roots more k h.root h.at;
  kept = get_stays vars (c ∷ []) n _ h.kept;
}
root_stays vars c roots more (Plain t) n h = get_stays vars (c ∷ []) n _ h

variable_stays : (r : Registered) (roots more : List MeantRoot) (c : TypeVarContent) (t : Symbol) → IsRegistryOf r roots → (s : Symbol)
    (fs : List Function) (n : ℕ) → IsVariableAt r roots s fs n → IsVariableAt (with_one r c t) (roots ++ more) s fs n
variable_stays r roots more c t h s [] n v = root_stays r.vars c roots more s.root n v
variable_stays r roots more c t h s (f ∷ fs) n v = derived_stays r roots c t h s n v

-- a registry stays one, where a symbol that it hasn't is added with its variable
module _ (r : Registered) (roots more : List MeantRoot) (c : TypeVarContent) (s : Symbol) (h : IsRegistryOf r roots)
    (new : (n : ℕ) → IsNumberOf r s n → ⊥)
    (at : IsVariableAt (with_one r c s) (roots ++ more) s s.functions (length r.vars)) where
  one_number : (t : Symbol) (n m : ℕ) → ((slice_get r.symbols n ≡ Some t) ⊎ ((n ≡ length r.symbols) × (s ≡ t)))
      → ((slice_get r.symbols m ≡ Some t) ⊎ ((m ≡ length r.symbols) × (s ≡ t))) → n ≡ m
  one_number t n m (inl a) (inl b) = h.apart t n m a b
  one_number t n m (inl a) (inr b) = absurd (new n (subst (λ (x : Symbol). IsNumberOf r x n) (sym b.1) a))
  one_number t n m (inr a) (inl b) = absurd (new m (subst (λ (x : Symbol). IsNumberOf r x m) (sym a.1) b))
  one_number t n m (inr a) (inr b) = a.0 ∙ sym b.0

  variable_by : (t : Symbol) (n : ℕ) → ((slice_get r.symbols n ≡ Some t) ⊎ ((n ≡ length r.symbols) × (s ≡ t)))
      → IsVariableAt (with_one r c s) (roots ++ more) t t.functions n
  variable_by t n (inl a) = variable_stays r roots more c s h t t.functions n (h.variables t n a)
  variable_by t n (inr e) =
      subst (λ (x : Symbol). IsVariableAt (with_one r c s) (roots ++ more) x x.functions n) e.1
      (subst (λ (k : ℕ). IsVariableAt (with_one r c s) (roots ++ more) s s.functions k) (h.count ∙ sym e.0) at)

  pub registry_one : IsRegistryOf (with_one r c s) (roots ++ more)
  registry_one =
      let count : length r.vars ≡ length r.symbols = h.count in
      record {
        count = omega (arith, length-append r.vars (c ∷ []), length-append r.symbols (s ∷ []));
        apart = λ t n m a b. one_number t n m (get_pushed r.symbols s n t a) (get_pushed r.symbols s m t b);
        variables = λ t n a. variable_by t n (get_pushed r.symbols s n t a);
      }

  -- the new one has the next number
  pub number_one : IsNumberOf (with_one r c s) s (length r.vars)
  number_one = subst (λ (k : ℕ). slice_get (r.symbols ++ s ∷ []) k ≡ Some s) (sym h.count) (get_end r.symbols s)

-- where no type variable is declared
pub registry_same : (r : Registered) (roots : List MeantRoot) (c : TypeVarContent) (s : Symbol) → IsRegistryOf r roots
    → ((n : ℕ) → IsNumberOf r s n → ⊥) → IsVariableAt (with_one r c s) roots s s.functions (length r.vars)
    → IsRegistryOf (with_one r c s) roots
registry_same r roots c s h new at =
    subst (λ (rs : List MeantRoot). IsRegistryOf (with_one r c s) rs) (append-nil roots)
    (registry_one r roots [] c s h new
    (subst (λ (rs : List MeantRoot). IsVariableAt (with_one r c s) rs s s.functions (length r.vars)) (sym (append-nil roots)) at))

-- ---- roots

-- what is kept as a root is the type that the root is
pub root_in : (r : Registered) (roots : List MeantRoot) (a : Root) (n : ℕ) (name doc : List ℕ) (set : TypeSetParts) → IsRegistryOf r roots
    → IsNumberOf r (symbol a []) n → IsKept r.vars n (root_content name doc set n) → IsTypeIn r (root_type a name set) n
root_in r roots a n name doc set h at kept = record {
  number = at;
  of = below r roots h (symbol a []) n at;
  root_of = root_below r roots h (symbol a []) n at;
  name = ap (λ (v : Variable). name_from (slice_get r.vars v.root)) (ap (variable_from n) kept) ∙ ap name_from kept;
  set = ap (coded_of r.vars) (ap (variable_from n) kept) ∙ ap set_at kept;
}
