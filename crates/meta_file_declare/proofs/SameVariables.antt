-- Registries of the same symbols are the same.
use Rattle.std.proofs.Common.{◌≡◌, ◌+◌, ℕ, zero, suc, List, [], ◌∷◌, ◌++◌, Option, Some, length, slice_get, refl, sym, ap, ◌∙◌, arith}
use Rattle.std.proofs.lemmas.List.{length-append}
use Rattle.std.proofs.lemmas.Option.{same_Some}
use Rattle.meta_lists.proofs.Places.{get_there, same_places}
use Rattle.meta_types.specs.Function.{Function}
use Rattle.meta_types.specs.DerivedFunc.{function_of}
use Rattle.meta_types.proofs.Functions.{same_func}
use Rattle.meta_typevar.specs.TypeSetParts.{TypeSetParts}
use Rattle.meta_typevar.specs.Registry.{sets_of, set_at, coded_at, coded_of, coded_along, variable_from, root_content, derived_content}
use Rattle.meta_typevar.specs.Registry.{IsKept}
use Rattle.meta_typevar.specs.declared.content.TypeVarContent.{TypeVarContent}
use Rattle.meta_file_types.specs.Meant.{Root, Declared, Plain, MeantRoot}
use Rattle.meta_file_types.specs.Symbols.{Symbol, symbol}
use Rattle.meta_file_types.specs.Registered.{Registered, IsRootAt, IsDerivedAt, IsVariableAt, IsRegistryOf}

-- ---- lists with one more at their end

same_front : {X : Type 0} (xs ys : List X) (x y : X) → xs ++ x ∷ [] ≡ ys ++ y ∷ [] → (xs ≡ ys) × (x ≡ y)
same_front [] [] x y e = (refl, cc)
same_front [] (b ∷ ys) x y e =
    let l : 1 ≡ suc (length ys + 1) = ap (λ zs. length zs) e ∙ ap (λ n. suc n) (length-append ys (y ∷ [])) in
    absurd (omega (arith, l))
same_front (a ∷ xs) [] x y e =
    let l : suc (length xs + 1) ≡ 1 = sym (ap (λ n. suc n) (length-append xs (x ∷ []))) ∙ ap (λ zs. length zs) e in
    absurd (omega (arith, l))
same_front (a ∷ xs) (b ∷ ys) x y e =
    let head : a ≡ b = cc in
    let tail : xs ++ x ∷ [] ≡ ys ++ y ∷ [] = cc in
    let rest = same_front xs ys x y tail in
    (λ i. head i ∷ rest.0 i, rest.1)

-- ---- one variable

module _ (vars other : List TypeVarContent) where
  -- what is kept of the number is the same, and so is the set of its root
  pub record IsSame (n : ℕ) : Type 0 where
    pub content : TypeVarContent
    pub one : IsKept vars n content
    pub two : IsKept other n content
    pub root : sets_of vars content.root ≡ sets_of other content.root

  root_same : (n : ℕ) (name doc : List ℕ) (set : TypeSetParts) → IsKept vars n (root_content name doc set n)
      → IsKept other n (root_content name doc set n) → IsSame n
  root_same n name doc set a b = record { content = root_content name doc set n; one = a; two = b; root = ap set_at (a ∙ sym b) }

  -- the coded image of one of which the same is kept
  coded_same : (n : ℕ) (c : TypeVarContent) → IsKept vars n c → IsKept other n c → sets_of vars c.root ≡ sets_of other c.root
      → coded_at vars n ≡ coded_at other n
  coded_same n c a b root =
      ap (λ (o : Option TypeVarContent). coded_of vars (variable_from n o)) a ∙ ap (coded_along c.chain) root
      ∙ ap (λ (o : Option TypeVarContent). coded_of other (variable_from n o)) (sym b)

module _ (roots : List MeantRoot) (symbols : List Symbol) (vars other : List TypeVarContent)
    (one : IsRegistryOf (record { vars = vars; symbols = symbols }) roots)
    (two : IsRegistryOf (record { vars = other; symbols = symbols }) roots) where
  this : Registered
  this = record { vars = vars; symbols = symbols }

  that : Registered
  that = record { vars = other; symbols = symbols }

  roots_same : (a : Root) (n : ℕ) → IsRootAt vars roots a n → IsRootAt other roots a n → IsSame vars other n
  roots_same (Declared k) n h g =
      let same : h.root ≡ g.root = same_Some h.root g.root (sym h.at ∙ g.at) in
      root_same vars other n h.root.name h.root.doc h.root.set h.kept
      (g.kept ∙ ap (λ (r : MeantRoot). Some (root_content r.name r.doc r.set n)) (sym same))
  roots_same (Plain t) n h g = root_same vars other n _ _ _ h g

  derived_same : (s : Symbol) (n m : ℕ) → length s.functions ≡ suc m
      → ((t : Symbol) (k : ℕ) → length t.functions ≡ m → slice_get symbols k ≡ Some t → IsSame vars other k)
      → IsDerivedAt (record { vars = vars; symbols = symbols }) s n → IsDerivedAt (record { vars = other; symbols = symbols }) s n
      → IsSame vars other n
  derived_same s n m long below h g =
      let parts = same_front h.before g.before (function_of h.last) (function_of g.last) (sym h.functions ∙ g.functions) in
      let last = same_func h.last g.last parts.1 in
      let parent : h.parent ≡ g.parent =
      one.apart (symbol s.root h.before) h.parent g.parent h.parent_is
      (g.parent_is ∙ ap (λ (fs : List Function). Some (symbol s.root fs)) (sym parts.0)) in
      let shorter : length h.before ≡ m =
      omega (arith, ap (λ (fs : List Function). length fs) h.functions, length-append h.before (function_of h.last ∷ []), long) in
      let same = below (symbol s.root h.before) h.parent shorter h.parent_is in
      let mine : h.derived.parent ≡ same.content = same_Some _ _ (sym h.derived.kept ∙ same.one) in
      let yours : g.derived.parent ≡ same.content =
      same_Some _ _ (sym g.derived.kept ∙ ap (slice_get other) (sym parent) ∙ same.two) in
      let coded : coded_at vars h.parent ≡ coded_at other h.parent =
      coded_same vars other h.parent same.content same.one same.two same.root in
      let content : h.content ≡ g.content =
      h.derived.is ∙ ap (λ (c : TypeVarContent). derived_content vars h.parent c h.last) mine
      ∙ ap
      (λ (x : TypeSetParts). let r : TypeVarContent = record (derived_content vars h.parent same.content h.last) { type_set = x } in r)
      coded
      ∙ ap (λ (f : _). derived_content other h.parent same.content f) last
      ∙ ap (λ (p : ℕ). derived_content other p same.content g.last) parent
      ∙ ap (λ (c : TypeVarContent). derived_content other g.parent c g.last) (sym yours) ∙ sym g.derived.is in
      let root : h.content.root ≡ same.content.root =
      ap (λ (c : TypeVarContent). c.root) h.derived.is ∙ ap (λ (c : TypeVarContent). c.root) mine in
      record {
        content = h.content;
        one = h.kept;
        two = g.kept ∙ ap (λ (c : TypeVarContent). Some c) (sym content);
        root = ap (sets_of vars) root ∙ same.root ∙ ap (sets_of other) (sym root);
      }

  by_functions : (s : Symbol) (n m : ℕ) (fs : List Function) → s.functions ≡ fs → length fs ≡ suc m
      → ((t : Symbol) (k : ℕ) → length t.functions ≡ m → slice_get symbols k ≡ Some t → IsSame vars other k)
      → IsVariableAt (record { vars = vars; symbols = symbols }) roots s fs n
      → IsVariableAt (record { vars = other; symbols = symbols }) roots s fs n → IsSame vars other n
  by_functions s n m [] e l below h g = absurd (omega (arith, l))
  by_functions s n m (f ∷ fs) e l below h g = derived_same s n m (ap (λ (gs : List Function). length gs) e ∙ l) below h g

  by_none : (s : Symbol) (n : ℕ) (fs : List Function) → length fs ≡ 0
      → IsVariableAt (record { vars = vars; symbols = symbols }) roots s fs n
      → IsVariableAt (record { vars = other; symbols = symbols }) roots s fs n → IsSame vars other n
  by_none s n [] l h g = roots_same s.root n h g
  by_none s n (f ∷ fs) l h g = absurd (omega (arith, l))

  -- by how many functions derive it
  same_at : (m : ℕ) (s : Symbol) (n : ℕ) → length s.functions ≡ m → slice_get symbols n ≡ Some s → IsSame vars other n
  same_at zero s n l at = by_none s n s.functions l (one.variables s n at) (two.variables s n at)
  same_at (suc m) s n l at =
      by_functions s n m s.functions refl l (λ t k. same_at m t k) (one.variables s n at) (two.variables s n at)

  pub vars_same : vars ≡ other
  vars_same = same_places vars other (one.count ∙ sym two.count) (λ j l.
      let there = get_there symbols j (omega (arith, one.count, l)) in
      let same = same_at (length there.0.functions) there.0 j refl there.1 in
      same.one ∙ sym same.two)
