-- The variables of a registry by what is kept of them.
use Rattle.std.proofs.lemmas.List.{append-nil, same_from_push}
use Rattle.std.proofs.Common.{◌≡◌, ℕ, ◌<◌, ◌+◌, ◌↔◌, List, [], ◌∷◌, ◌++◌, length, refl, sym, ap, ◌∙◌, subst, arith, zero, suc, Option, None}
use Rattle.std.proofs.Common.{Some}
use Rattle.std.specs.Prelude.{slice_get, Result, Ok, Err, IsErr, IfOk, OnOk, OnErr}
use Rattle.std.proofs.lemmas.Bool.{false≢true}
use Rattle.std.proofs.lemmas.Option.{slice_get_within, same_Some}
use Rattle.meta_lists.proofs.Pushed.{get_end, not_empty}
use Rattle.meta_types.specs.Function.{Function}
use Rattle.meta_types.specs.DerivedFunc.{function_of}
use Rattle.meta_types.specs.declared.derived_func.DerivedFunc.{DerivedFunc}
use Rattle.meta_types.proofs.Functions.{same_func}
use Rattle.meta_typevar.specs.TypeSetParts.{TypeSetParts}
use Rattle.meta_typevar.specs.Image.{image_of}
use Rattle.meta_typevar.specs.Variable.{Variable, underived, longer}
use Rattle.meta_typevar.specs.Registry.{set_of, set_at, sets_of, variable_from, variable_at, coded_along, coded_of, coded_at, coded_set}
use Rattle.meta_typevar.specs.Registry.{last_image, IsKept, IsRoot, IsDerivedFrom, IsRootOrDerived, IsDerivation, derived_content}
use Rattle.meta_typevar.specs.Registry.{IsRegistry}
use Rattle.meta_typevar.specs.Children.{IsChild}
use Rattle.meta_typevar.specs.Derivation.{Derives, GrowsByOne}
use Rattle.meta_typevar.specs.declared.content.TypeVarContent.{TypeVarContent}
use Rattle.meta_typevar.specs.declared.content.TypeVarParent.{TypeVarParent}

same_kept : (vars : List TypeVarContent) (n : ℕ) (c d : TypeVarContent) → IsKept vars n c → IsKept vars n d → c ≡ d
same_kept vars n c d k l = let e : Some c ≡ Some d = sym k ∙ l in (cc)

pub kept_variable : (vars : List TypeVarContent) (n : ℕ) (c : TypeVarContent) → IsKept vars n c
    → variable_at vars n ≡ record { root = c.root; chain = c.chain }
kept_variable vars n c k = ap (variable_from n) k

-- something is kept of each number below the count
pub kept_at : (vars : List TypeVarContent) (n : ℕ) → n < length vars → (c : TypeVarContent) × IsKept vars n c
kept_at [] n l = absurd (omega arith)
kept_at (x ∷ xs) zero l = (x, refl)
kept_at (x ∷ xs) (suc n) l = kept_at xs n (omega arith)

-- the image along a chain with one function more
pub coded_last : (fs : List Function) (f : Function) (s : TypeSetParts) → coded_along (fs ++ f ∷ []) s ≡ image_of f (coded_along fs s)
coded_last [] f s = refl
coded_last (g ∷ fs) f s = coded_last fs f (image_of g s)

-- the coded image, by what is kept
coded_by : (vars : List TypeVarContent) (n : ℕ) (c : TypeVarContent) (b : Option TypeVarParent) → IsKept vars n c
    → IsRootOrDerived vars n c b → last_image c.type_set b ≡ coded_along c.chain (sets_of vars c.root)
coded_by vars n c None k (at, none) =
    let here : set_of c ≡ sets_of vars c.root = sym (ap set_at k) ∙ ap (sets_of vars) (sym at) in
    here ∙ ap (λ (fs : List Function). coded_along fs (sets_of vars c.root)) (sym none)
coded_by vars n c (Some p) k h =
    let f = function_of p.derived_func in
    let parent = h.parent_content in
    ap (image_of f) h.set ∙ sym (coded_last parent.chain f (sets_of vars parent.root))
    ∙ λ i. coded_along (sym h.chain i) (sets_of vars (sym h.root i))

pub coded_kept : (vars : List TypeVarContent) (n : ℕ) (c : TypeVarContent) → IsRegistry vars → IsKept vars n c
    → coded_set c ≡ coded_at vars n
coded_kept vars n c r k = coded_by vars n c c.base k (r.variables n c k).placed ∙ sym (ap (coded_of vars) (kept_variable vars n c k))

pub root_below : (vars : List TypeVarContent) (n : ℕ) (c : TypeVarContent) → IsRegistry vars → IsKept vars n c → c.root < length vars
root_below vars n c r k = let h = (r.variables n c k).root in slice_get_within vars c.root h.content h.kept

-- what has no parent is a root itself, with no chain
underived_by : (vars : List TypeVarContent) (n : ℕ) (c : TypeVarContent) (b : Option TypeVarParent)
    → IsRootOrDerived vars n c b → b ≡ None → (c.root ≡ n) × (c.chain ≡ [])
underived_by vars n c None h e = h
underived_by vars n c (Some p) h e = (cc)

pub root_is : (vars : List TypeVarContent) (n : ℕ) → IsRegistry vars → IsRoot vars n → variable_at vars n ≡ underived n
root_is vars n r h =
    let p = underived_by vars n h.content h.content.base (r.variables n h.content h.kept).placed h.without_parent in
    kept_variable vars n h.content h.kept ∙ λ i. record { root = p.0 i; chain = p.1 i }

-- and what has no chain has no parent
pub base_of : (vars : List TypeVarContent) (n : ℕ) (c : TypeVarContent) (b : Option TypeVarParent)
    → IsRootOrDerived vars n c b → c.chain ≡ [] → b ≡ None
base_of vars n c None h e = refl
base_of vars n c (Some p) h e = absurd (not_empty h.parent_content.chain _ (sym h.chain ∙ e))

-- a variable has no parent exactly where it has no chain
pub underived_told : (vars : List TypeVarContent) (n : ℕ) (c : TypeVarContent) → IsRegistry vars → IsKept vars n c
    → ((c.base ≡ None) ↔ ((variable_at vars n).chain ≡ []))
underived_told vars n c r k =
    let chain = ap (λ (v : Variable). v.chain) (kept_variable vars n c k) in (
      λ e. chain ∙ (underived_by vars n c c.base (r.variables n c k).placed e).1,
      λ e. base_of vars n c c.base (r.variables n c k).placed (sym chain ∙ e),
    )

-- the root of a variable has no chain
pub root_underived : (vars : List TypeVarContent) (n : ℕ) (c : TypeVarContent) → IsRegistry vars → IsKept vars n c
    → variable_at vars c.root ≡ underived c.root
root_underived vars n c r k = root_is vars c.root r (r.variables n c k).root

-- ---- equal variables are one

-- two that stand at places below k, and have the same root and chain, stand at one
abbrev SameBelow : List TypeVarContent → ℕ → Type 0
SameBelow vars k = (n m : ℕ) (c d : TypeVarContent) → n < k → IsKept vars n c → IsKept vars m d → c.root ≡ d.root
    → c.chain ≡ d.chain → n ≡ m

same_step : (vars : List TypeVarContent) → IsRegistry vars → (k : ℕ) → SameBelow vars k → SameBelow vars (suc k)
same_step vars r k ih n m c d l a b e f = go c.base d.base refl refl (r.variables n c a).placed (r.variables m d b).placed
  where
    earlier : (v : ℕ) → v < n → v < k
    earlier v h = omega (arith, h, l)

    go : (x y : Option TypeVarParent) → c.base ≡ x → d.base ≡ y → IsRootOrDerived vars n c x → IsRootOrDerived vars m d y → n ≡ m
    go None None s t (p, _) (q, _) = sym p ∙ e ∙ q
    go None (Some y) s t (_, none) h = absurd (not_empty h.parent_content.chain _ (sym h.chain ∙ sym f ∙ none))
    go (Some x) None s t h (_, none) = absurd (not_empty h.parent_content.chain _ (sym h.chain ∙ f ∙ none))
    go (Some x) (Some y) s t h j =
        let chains = same_from_push h.parent_content.chain j.parent_content.chain _ _ (sym h.chain ∙ f ∙ j.chain) in
        let funcs = same_func x.derived_func y.derived_func chains.1 in
        let parents = ih x.type_var y.type_var h.parent_content j.parent_content
        (earlier x.type_var h.earlier) h.kept j.kept (sym h.root ∙ e ∙ j.root) chains.0 in
        let one : x ≡ y = λ i. record { type_var = parents i; derived_func = funcs i } in
        r.different n m c d y a b (s ∙ ap Some one) t

same_place : (vars : List TypeVarContent) → IsRegistry vars → (k : ℕ) → SameBelow vars k
same_place vars r zero = λ n m c d l a b e f. absurd (none n l)
  where
    none : (n : ℕ) → n < 0 → ⊥
    none n l = omega (arith, l)
same_place vars r (suc k) = same_step vars r k (same_place vars r k)

-- variables with the same root and the same chain are the same
pub one_variable : (vars : List TypeVarContent) → IsRegistry vars → (n m : ℕ) → n < length vars → m < length vars
    → variable_at vars n ≡ variable_at vars m → n ≡ m
one_variable vars r n m l j e =
    let (c, k) = kept_at vars n l in
    let (d, h) = kept_at vars m j in
    let same : ◌≡◌ {A = Variable} (record { root = c.root; chain = c.chain }) (record {
      root = d.root;
      chain = d.chain;
    }) = sym (kept_variable vars n c k) ∙ e ∙ kept_variable vars m d h in
    same_place vars r (n + 1) n m c d (omega arith) k h (ap (λ (v : Variable). v.root) same) (ap (λ (v : Variable). v.chain) same)

-- ---- derived variables

child_by : (vars : List TypeVarContent) (n m : ℕ) (f : DerivedFunc) (d : TypeVarContent) (b : Option TypeVarParent)
    → b ≡ Some (record { type_var = n; derived_func = f }) → IsRootOrDerived vars m d b
    → ◌≡◌ {A = Variable} (record { root = d.root; chain = d.chain }) (longer (variable_at vars n) (function_of f))
child_by vars n m f d None e h = (cc)
child_by vars n m f d (Some q) e h =
    let p : TypeVarParent = record { type_var = n; derived_func = f } in
    let same = same_Some q p e in
    let at : IsDerivedFrom vars m d p = subst (λ (x : TypeVarParent). IsDerivedFrom vars m d x) same h in
    let parent = kept_variable vars n at.parent_content at.kept in
    (λ i. record { root = at.root i; chain = at.chain i }) ∙ ap (λ (v : Variable). longer v (function_of f)) (sym parent)

-- a child is its parent with one function more
pub child_variable : (vars : List TypeVarContent) (n m : ℕ) (f : DerivedFunc) → IsRegistry vars → IsChild vars n f m
    → variable_at vars m ≡ longer (variable_at vars n) (function_of f)
child_variable vars n m f r h = kept_variable vars m h.content h.kept
    ∙ child_by vars n m f h.content h.content.base h.derived (r.variables m h.content h.kept).placed

-- and what is its parent with one function more is a child
pub variable_child : (vars : List TypeVarContent) (n m : ℕ) (f : DerivedFunc) → IsRegistry vars → n < length vars
    → m < length vars → variable_at vars m ≡ longer (variable_at vars n) (function_of f) → IsChild vars n f m
variable_child vars n m f r l j e =
    let (c, k) = kept_at vars n l in
    let (d, h) = kept_at vars m j in
    let same : ◌≡◌ {A = Variable} (record { root = d.root; chain = d.chain }) (record {
      root = c.root;
      chain = c.chain
          ++ (function_of f ∷ []);
    }) = sym (kept_variable vars m d h) ∙ e ∙ ap (λ (v : Variable). longer v (function_of f)) (kept_variable vars n c k) in
    go c d k h (ap (λ (v : Variable). v.root) same) (ap (λ (v : Variable). v.chain) same) d.base refl (r.variables m d h).placed
  where
    go : (c d : TypeVarContent) → IsKept vars n c → IsKept vars m d → d.root ≡ c.root
        → d.chain ≡ c.chain ++ (function_of f ∷ []) → (b : Option TypeVarParent) → d.base ≡ b
        → IsRootOrDerived vars m d b → IsChild vars n f m
    go c d k h root chain None s (_, none) = absurd (not_empty c.chain (function_of f) (sym chain ∙ none))
    go c d k h root chain (Some q) s p =
        let chains = same_from_push p.parent_content.chain c.chain _ _ (sym p.chain ∙ chain) in
        let func = same_func q.derived_func f chains.1 in
        let parent = same_place vars r (q.type_var + 1) q.type_var n p.parent_content c (omega arith) p.kept k
        (sym p.root ∙ root) chains.0 in
        let one : q ≡ record { type_var = n; derived_func = f } = λ i. record { type_var = parent i; derived_func = func i } in
        record { content = d; kept = h; derived = s ∙ ap Some one }

-- ---- what `derived` does

pub derives_known : {E : Type 0} (vars : List TypeVarContent) (n k : ℕ) (f : DerivedFunc) → IsRegistry vars
    → IsChild vars n f k → Derives {E = E} vars n f (Ok k) vars
derives_known {E} vars n k f r h =
    let below = slice_get_within vars k h.content h.kept in
    let is = child_variable vars n k f r h in
    record {
      known = λ m l e. (ap Ok (one_variable vars r k m below l (is ∙ sym e)), refl);
      added = λ none c kept. absurd (none k below is);
      answer = (below, is);
      err = tt;
    }

pub derives_failed : {E : Type 0} (vars : List TypeVarContent) (n : ℕ) (f : DerivedFunc) (result : Result ℕ E)
    → IsRegistry vars → n < length vars → ((m : ℕ) → IsChild vars n f m → ⊥) → IsErr result → Derives vars n f result vars
derives_failed {E} vars n f (Ok v) r l none h = absurd (false≢true h)
derives_failed {E} vars n f (Err e) r l none h = record {
  known = λ m j is. absurd (none m (variable_child vars n m f r l j is));
  added = λ free c kept. tt;
  answer = tt;
  err = refl;
}

pub derives_added : {E : Type 0} (vars new : List TypeVarContent) (n : ℕ) (f : DerivedFunc) (d : TypeVarContent)
    (result : Result ℕ E) → IsRegistry vars → n < length vars → ((m : ℕ) → IsChild vars n f m → ⊥)
    → IsDerivation vars n f d → IfOk result (λ v. v ≡ length vars) → OnOk result (new ≡ vars ++ d ∷ [])
    → OnErr result (new ≡ vars) → Derives vars n f result new
derives_added {E} vars new n f d (Ok v) r l none made number added err =
    let parent = kept_variable vars n made.parent made.kept in
    let there : slice_get new v ≡ Some d = (λ i. slice_get (added i) (number i)) ∙ get_end vars d in
    let longest : ◌≡◌ {A = Variable} (record { root = d.root; chain = d.chain }) (longer (variable_at vars n)
    (function_of f)) = (λ i. record { root = (made.is i).root; chain = (made.is i).chain })
    ∙ ap (λ (x : Variable). longer x (function_of f)) (sym parent) in
    record {
      known = λ m j is. absurd (none m (variable_child vars n m f r l j is));
      added = λ free c kept. added ∙ ap (λ (x : TypeVarContent). vars ++ x ∷ [])
          (made.is ∙ ap (λ (x : TypeVarContent). derived_content vars n x f) (same_kept vars n made.parent c made.kept kept));
      answer = (slice_get_within new v d there, ap (variable_from v) there ∙ longest);
      err = tt;
    }
derives_added {E} vars new n f d (Err e) r l none made number added err = record {
  known = λ m j is. absurd (none m (variable_child vars n m f r l j is));
  added = λ free c kept. tt;
  answer = tt;
  err = err;
}

pub grows_none : (vars : List TypeVarContent) → GrowsByOne vars vars
grows_none vars = record { more = []; is = sym (append-nil vars); few = omega arith }

pub grows_one : {T E : Type 0} (r : Result T E) (old new : List TypeVarContent) (c : TypeVarContent)
    → OnOk r (new ≡ old ++ c ∷ []) → OnErr r (new ≡ old) → GrowsByOne old new
grows_one (Ok v) old new c is stays = record { more = c ∷ []; is = is; few = omega arith }
grows_one (Err e) old new c is stays = subst (GrowsByOne old) (sym stays) (grows_none old)
