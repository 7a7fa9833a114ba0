-- A registry that gains a variable.
use Rattle.std.proofs.Common.{◌≡◌, ℕ, ◌<◌, ◌-◌, ◌^◌, false, List, [], ◌∷◌, ◌++◌, length, refl, sym, ap, ◌∙◌, subst, arith, length-append}
use Rattle.std.proofs.Common.{zero, suc, Option, None, Some, inl, inr}
use Rattle.std.proofs.lemmas.Option.{slice_get_within}
use Rattle.meta_lists.proofs.Pushed.{get_pushed_below, get_kept, get_end}
use Rattle.meta_types.specs.Function.{Function}
use Rattle.meta_types.specs.declared.derived_func.DerivedFunc.{DerivedFunc}
use Rattle.meta_typevar.specs.TypeSetParts.{TypeSetParts, IsTypeSet, no_types}
use Rattle.meta_typevar.specs.Registry.{set_of, set_at, sets_of, variable_from, coded_of, coded_at, coded_along, root_content}
use Rattle.meta_typevar.specs.Registry.{derived_content, IsDerivation, IsKept, IsRoot, IsRootOrDerived, IsVariable, HoldTypeSets}
use Rattle.meta_typevar.specs.Registry.{AreDerivedOnce, IsRegistry}
use Rattle.meta_typevar.specs.Children.{IsChild}
use Rattle.meta_typevar.specs.declared.content.TypeVarContent.{TypeVarContent}
use Rattle.meta_typevar.specs.declared.content.TypeVarParent.{TypeVarParent}

no_types_is : IsTypeSet no_types
no_types_is = record {
  lanes = record { test = λ _. false; is = refl };
  dynamic_lanes = record { test = λ _. false; is = refl };
  ints = record { test = λ _. false; is = refl };
  floats = record { test = λ _. false; is = refl };
}

pub kept_below : (vars : List TypeVarContent) (n : ℕ) (c : TypeVarContent) → IsKept vars n c → n < length vars
kept_below vars n c k = slice_get_within vars n c k

no_kept : (n : ℕ) (c : TypeVarContent) → IsKept [] n c → ⊥
no_kept n c k = (cc)

pub empty_registry : IsRegistry []
empty_registry = record {
  few = omega arith;
  sets = λ n. no_types_is;
  variables = λ n c k. absurd (no_kept n c k);
  different = λ n m c d p k l e f. absurd (no_kept n c k);
}

hold_more : (vars : List TypeVarContent) (c : TypeVarContent) → HoldTypeSets vars → IsTypeSet (set_of c) → HoldTypeSets (vars ++ c ∷ [])
hold_more [] c h s zero = s
hold_more [] c h s (suc n) = no_types_is
hold_more (x ∷ xs) c h s zero = h 0
hold_more (x ∷ xs) c h s (suc n) = hold_more xs c (λ n. h (suc n)) s n

-- the set of a kept variable stays
pub sets_more : (vars : List TypeVarContent) (c d : TypeVarContent) (n : ℕ) → IsKept vars n d → sets_of (vars ++ c ∷ []) n ≡ sets_of vars n
sets_more vars c d n k = ap set_at (get_kept vars c n d k) ∙ sym (ap set_at k)

root_more : (vars : List TypeVarContent) (c : TypeVarContent) (n : ℕ) → IsRoot vars n → IsRoot (vars ++ c ∷ []) n
root_more vars c n h = record { content = h.content; kept = get_kept vars c n h.content h.kept; without_parent = h.without_parent }

placed_more : (vars : List TypeVarContent) (c d : TypeVarContent) (n : ℕ) (b : Option TypeVarParent) → IsRegistry vars
    → IsRootOrDerived vars n d b → IsRootOrDerived (vars ++ c ∷ []) n d b
placed_more vars c d n None r h = h
placed_more vars c d n (Some p) r h =
    let root = (r.variables p.type_var h.parent_content h.kept).root in
    record {
      parent_content = h.parent_content;
      kept = get_kept vars c p.type_var h.parent_content h.kept;
      earlier = h.earlier;
      root = h.root;
      chain = h.chain;
      set = h.set ∙ ap (coded_along h.parent_content.chain) (sym (sets_more vars c root.content h.parent_content.root root.kept));
    }

variable_more : (vars : List TypeVarContent) (c d : TypeVarContent) (n : ℕ) → IsRegistry vars → IsVariable vars n d
    → IsVariable (vars ++ c ∷ []) n d
variable_more vars c d n r h = record { placed = placed_more vars c d n d.base r h.placed; root = root_more vars c d.root h.root }

-- the new one is no other's double
abbrev pub NewParent : List TypeVarContent → TypeVarContent → Type 0
NewParent vars c = (p : TypeVarParent) (m : ℕ) (d : TypeVarContent) → c.base ≡ Some p → IsKept vars m d → d.base ≡ Some p → ⊥

different_more : (vars : List TypeVarContent) (c : TypeVarContent) → AreDerivedOnce vars → NewParent vars c
    → AreDerivedOnce (vars ++ c ∷ [])
different_more vars c h new n m a b p k l e f = elim (get_pushed_below vars c n a k) [
  | inl x ↦ elim (get_pushed_below vars c m b l) [
    | inl y ↦ h n m a b p x.1 y.1 e f
    | inr y ↦ absurd (new p n a (ap (λ (z : TypeVarContent). z.base) y.1 ∙ f) x.1 e)
  ]
  | inr x ↦ elim (get_pushed_below vars c m b l) [
    | inl y ↦ absurd (new p m b (ap (λ (z : TypeVarContent). z.base) x.1 ∙ e) y.1 f)
    | inr y ↦ x.0 ∙ sym y.0
  ]
]

pub registry_more : (vars : List TypeVarContent) (c : TypeVarContent) → IsRegistry vars → IsTypeSet (set_of c)
    → length vars < 2 ^ 32 - 1 → IsVariable (vars ++ c ∷ []) (length vars) c → NewParent vars c → IsRegistry (vars ++ c ∷ [])
registry_more vars c r s room v new = record {
  few = omega (arith, length-append {A = TypeVarContent});
  sets = hold_more vars c r.sets s;
  variables = λ n d k. elim (get_pushed_below vars c n d k) [
    | inl x ↦ variable_more vars c d n r (r.variables n d x.1)
    | inr x ↦ at_new n d x.0 x.1
  ];
  different = different_more vars c r.different new;
}
  where
    at_new : (n : ℕ) (d : TypeVarContent) → n ≡ length vars → c ≡ d → IsVariable (vars ++ c ∷ []) n d
    at_new n d e f =
        let at_d : IsVariable (vars ++ c ∷ []) (length vars) d =
        subst (λ (x : TypeVarContent). IsVariable (vars ++ c ∷ []) (length vars) x) f v in
        subst (λ (m : ℕ). IsVariable (vars ++ c ∷ []) m d) (sym e) at_d

-- the registry gains a root
pub registry_root : (vars : List TypeVarContent) (name doc : List ℕ) (s : TypeSetParts) → IsRegistry vars
    → IsTypeSet s → length vars < 2 ^ 32 - 1 → IsRegistry (vars ++ root_content name doc s (length vars) ∷ [])
registry_root vars name doc s r is room =
    let c : TypeVarContent = root_content name doc s (length vars) in
    registry_more vars c r is room
    (record { placed = (refl, refl); root = record { content = c; kept = get_end vars c; without_parent = refl } })
    (λ p m d e k f. (cc))

-- the registry gains a derived variable
coded_kept : (vars : List TypeVarContent) (n : ℕ) (c : TypeVarContent) → IsKept vars n c
    → coded_at vars n ≡ coded_along c.chain (sets_of vars c.root)
coded_kept vars n c k = ap (λ (o : Option TypeVarContent). coded_of vars (variable_from n o)) k

pub registry_derived : (vars : List TypeVarContent) (n : ℕ) (f : DerivedFunc) (c : TypeVarContent) → IsRegistry vars
    → IsKept vars n c → IsTypeSet (coded_at vars n) → length vars < 2 ^ 32 - 1
    → ((m : ℕ) (d : TypeVarContent) → IsKept vars m d → d.base ≡ Some (record { type_var = n; derived_func = f }) → ⊥)
    → IsRegistry (vars ++ derived_content vars n c f ∷ [])
registry_derived vars n f c r k is room new =
    let d : TypeVarContent = derived_content vars n c f in
    let root = (r.variables n c k).root in
    registry_more vars d r is room
    (record {
      placed = record {
        parent_content = c;
        kept = get_kept vars d n c k;
        earlier = kept_below vars n c k;
        root = refl;
        chain = refl;
        set = coded_kept vars n c k ∙ ap (coded_along c.chain) (sym (sets_more vars d root.content c.root root.kept));
      };
      root = root_more vars d c.root root;
    })
    (λ p m x at l g. new m x l (g ∙ sym at))

-- the same, where the registry is seen in two ways
pub root_added : (vars shown vars' : List TypeVarContent) (name doc : List ℕ) (s : TypeSetParts) (root : ℕ)
    (chain : List Function) → vars ≡ shown → IsRegistry vars → IsTypeSet s → length shown < 2 ^ 32 - 1
    → root ≡ length vars → chain ≡ []
    → vars' ≡ vars ++ record { name = name; doc = doc; base = None; type_set = s; root = root; chain = chain } ∷ [] → IsRegistry vars'
root_added vars shown vars' name doc s root chain same r is room e none more =
    let few : length vars < 2 ^ 32 - 1 = subst (λ (v : List TypeVarContent). length v < 2 ^ 32 - 1) (sym same) room in
    let content : vars' ≡ vars ++ root_content name doc s (length vars) ∷ [] = more
    ∙ λ i. vars ++ record { name = name; doc = doc; base = None; type_set = s; root = e i; chain = none i } ∷ [] in
    subst IsRegistry (sym content) (registry_root vars name doc s r is few)

pub derived_added : (vars shown vars' : List TypeVarContent) (n : ℕ) (f : DerivedFunc) (d : TypeVarContent)
    → vars ≡ shown → IsRegistry vars → IsDerivation shown n f d → IsTypeSet (set_of d) → length shown < 2 ^ 32 - 1
    → ((m : ℕ) → IsChild shown n f m → ⊥) → vars' ≡ vars ++ d ∷ [] → IsRegistry vars'
derived_added vars shown vars' n f d same r h is room new more =
    let few : length vars < 2 ^ 32 - 1 = subst (λ (v : List TypeVarContent). length v < 2 ^ 32 - 1) (sym same) room in
    let made : IsDerivation vars n f d = subst (λ (v : List TypeVarContent). IsDerivation v n f d) (sym same) h in
    let first : (m : ℕ) → IsChild vars n f m → ⊥ = subst (λ (v : List TypeVarContent). (m : ℕ) → IsChild v n f m → ⊥) (sym same) new in
    let set : IsTypeSet (coded_at vars n) = subst (λ (x : TypeVarContent). IsTypeSet (set_of x)) made.is is in
    let at : IsRegistry (vars ++ derived_content vars n made.parent f ∷ []) =
    registry_derived vars n f made.parent r made.kept set few (λ m x k b. first m (record { content = x; kept = k; derived = b })) in
    subst IsRegistry (sym (more ∙ ap (λ (x : TypeVarContent). vars ++ x ∷ []) made.is)) at
