-- What is noted of derived variables, where a registry gains a variable.
use Rattle.std.proofs.Common.{◌≡◌, ◌≢◌, ℕ, ◌<◌, ◌⊎◌, inl, inr, true, false, eqb, List, [], ◌∷◌, ◌++◌, length, refl, sym, ap, ◌∙◌, subst}
use Rattle.std.proofs.Common.{arith, length-append, Option, None, Some}
use Rattle.std.specs.Prelude.{slice_get, slice_set, slice_index_or}
use Rattle.std.proofs.lemmas.Bool.{eqb-true, eqb-false}
use Rattle.std.proofs.lemmas.Option.{slice_get_within, slice_get_read, same_Some}
use Rattle.std.proofs.lemmas.List.{length-set}
use Rattle.meta_lists.proofs.Places.{get_set_here, get_set_other}
use Rattle.meta_lists.proofs.Pushed.{get_pushed_below, get_kept, get_end}
use Rattle.meta_types.specs.declared.derived_func.DerivedFunc.{DerivedFunc}
use Rattle.meta_types.specs.declared.derived_func.DerivedFunc.TheVariants.{LaneOf}
use Rattle.meta_types.proofs.Functions.{func_cases}
use Rattle.meta_typevar.specs.Registry.{IsRootOrDerived, IsDerivation, IsRegistry}
use Rattle.meta_typevar.specs.Children.{child_of, no_children, IsChild, AreKnown}
use Rattle.meta_typevar.specs.declared.children.Children.{Children}
use Rattle.meta_typevar.specs.declared.content.TypeVarContent.{TypeVarContent}
use Rattle.meta_typevar.specs.declared.content.TypeVarParent.{TypeVarParent}

number_cases : (n m : ℕ) → (n ≡ m) ⊎ (n ≢ m)
number_cases n m = elim (eqb n m) as (λ b. eqb n m ≡ b → (n ≡ m) ⊎ (n ≢ m)) [
  | true ↦ λ e. inl (eqb-true _ _ e)
  | false ↦ λ e. inr (eqb-false _ _ e)
] refl

-- nothing is noted at first
no_child : (f : DerivedFunc) → child_of no_children f ≡ None
no_child LaneOf = refl
no_child f = refl

none_noted : (c : Children) (f : DerivedFunc) (m : ℕ) → no_children ≡ c → child_of c f ≡ Some m → ⊥
none_noted c f m e h =
    let n : child_of c f ≡ None = ap (λ (x : Children). child_of x f) (sym e) ∙ no_child f in
    (cc)

pub known_empty : AreKnown [] []
known_empty = record {
  as_many = refl;
  sound = λ n m c f e h. absurd (nothing n c e);
  complete = λ n m c f e h. absurd (nothing n c e);
}
  where
    nothing : (n : ℕ) (c : Children) → slice_get {X = Children} [] n ≡ Some c → ⊥
    nothing n c e = (cc)

child_more : (vars : List TypeVarContent) (d : TypeVarContent) (n : ℕ) (f : DerivedFunc) (m : ℕ) → IsChild vars n f m
    → IsChild (vars ++ d ∷ []) n f m
child_more vars d n f m h = record { content = h.content; kept = get_kept vars d m h.content h.kept; derived = h.derived }

-- a child stands after its parent
parent_earlier : (vars : List TypeVarContent) (n m : ℕ) (c : TypeVarContent) (p : TypeVarParent) (b : Option TypeVarParent) → b ≡ Some p
    → IsRootOrDerived vars m c b → p.type_var < m
parent_earlier vars n m c p None e h = (cc)
parent_earlier vars n m c p (Some q) e h =
    let same : q ≡ p = (cc) in
    subst (λ (x : TypeVarParent). x.type_var < m) same h.earlier

pub child_later : (vars : List TypeVarContent) (n : ℕ) (f : DerivedFunc) (m : ℕ) → IsRegistry vars → IsChild vars n f m
    → (n < m) × (m < length vars)
child_later vars n f m r h = (
  parent_earlier vars n m h.content _ h.content.base h.derived (r.variables m h.content h.kept).placed,
  slice_get_within vars m h.content h.kept,
)

-- a child in the longer registry is one of the shorter, or the new variable
child_cases : (vars : List TypeVarContent) (d : TypeVarContent) (n : ℕ) (f : DerivedFunc) (m : ℕ) → IsChild (vars ++ d ∷ []) n f m
    → IsChild vars n f m ⊎ ((m ≡ length vars) × (d.base ≡ Some (record { type_var = n; derived_func = f })))
child_cases vars d n f m h = elim (get_pushed_below vars d m h.content h.kept) [
  | inl x ↦ inl (record { content = h.content; kept = x.1; derived = h.derived })
  | inr x ↦ inr (x.0, ap (λ (z : TypeVarContent). z.base) x.1 ∙ h.derived)
]

-- the new variable has noted nothing yet
module _ (vars : List TypeVarContent) (children : List Children) (d : TypeVarContent) (r : IsRegistry vars)
    (known : AreKnown vars children) where
  as_many_more : length (children ++ no_children ∷ []) ≡ length (vars ++ d ∷ [])
  as_many_more = omega (arith, known.as_many, length-append {A = Children}, length-append {A = TypeVarContent})

  sound_more : (n m : ℕ) (c : Children) (f : DerivedFunc) → slice_get (children ++ no_children ∷ []) n ≡ Some c → child_of c f ≡ Some m
      → IsChild (vars ++ d ∷ []) n f m
  sound_more n m c f e h = elim (get_pushed_below children no_children n c e) [
    | inl x ↦ child_more vars d n f m (known.sound n m c f x.1 h)
    | inr x ↦ absurd (none_noted c f m x.1 h)
  ]

  complete_old : (n m : ℕ) (c : Children) (f : DerivedFunc) → slice_get (children ++ no_children ∷ []) n ≡ Some c → IsChild vars n f m
      → child_of c f ≡ Some m
  complete_old n m c f e h = elim (get_pushed_below children no_children n c e) [
    | inl x ↦ known.complete n m c f x.1 h
    | inr x ↦ absurd (past n x.0 (child_later vars n f m r h))
  ]
    where
      past : (n : ℕ) → n ≡ length children → (n < m) × (m < length vars) → ⊥
      past n e l = omega (arith, e, l.0, l.1, known.as_many)

  pub known_root : d.base ≡ None → AreKnown (vars ++ d ∷ []) (children ++ no_children ∷ [])
  known_root none = record {
    as_many = as_many_more;
    sound = sound_more;
    complete = λ n m c f e h. elim (child_cases vars d n f m h) [
      | inl x ↦ complete_old n m c f e x
      | inr x ↦ (cc)
    ];
  }

  -- and at its parent it is noted
  module _ (n0 : ℕ) (f0 : DerivedFunc) (noted c0 : Children) (base : d.base ≡ Some (record { type_var = n0; derived_func = f0 }))
      (below : n0 < length vars) (new : (m : ℕ) → IsChild vars n0 f0 m → ⊥)
      (old : slice_get (children ++ no_children ∷ []) n0 ≡ Some c0) (this : child_of noted f0 ≡ Some (length vars))
      (others : (f : DerivedFunc) → f ≢ f0 → child_of noted f ≡ child_of c0 f) where
    abbrev pub after : List Children
    after = slice_set (children ++ no_children ∷ []) n0 noted

    here : slice_get after n0 ≡ Some noted
    here = get_set_here (children ++ no_children ∷ []) n0 noted (omega (arith, below, known.as_many, length-append {A = Children}))

    other : (n : ℕ) → n ≢ n0 → slice_get after n ≡ slice_get (children ++ no_children ∷ []) n
    other n h = get_set_other (children ++ no_children ∷ []) n0 n noted h

    is_noted : (n : ℕ) (c : Children) → n ≡ n0 → slice_get after n ≡ Some c → noted ≡ c
    is_noted n c e h =
        let at : slice_get after n ≡ Some noted = ap (slice_get after) e ∙ here in
        (cc)

    new_child : IsChild (vars ++ d ∷ []) n0 f0 (length vars)
    new_child = record { content = d; kept = get_end vars d; derived = base }

    sound_here : (m : ℕ) (f : DerivedFunc) → child_of noted f ≡ Some m → IsChild (vars ++ d ∷ []) n0 f m
    sound_here m f h = elim (func_cases f f0) [
      | inl e ↦
          let is : Some m ≡ Some (length vars) = sym h ∙ ap (child_of noted) e ∙ this in
          let at : m ≡ length vars = (cc) in
          subst (λ (k : ℕ). IsChild (vars ++ d ∷ []) n0 f k) (sym at)
          (subst (λ (g : DerivedFunc). IsChild (vars ++ d ∷ []) n0 g (length vars)) (sym e) new_child)
      | inr e ↦ sound_more n0 m c0 f old (sym (others f e) ∙ h)
    ]

    sound_noted : (n m : ℕ) (c : Children) (f : DerivedFunc) → slice_get after n ≡ Some c → child_of c f ≡ Some m
        → IsChild (vars ++ d ∷ []) n f m
    sound_noted n m c f e h = elim (number_cases n n0) [
      | inl x ↦ subst (λ (k : ℕ). IsChild (vars ++ d ∷ []) k f m) (sym x)
          (sound_here m f (ap (λ (z : Children). child_of z f) (is_noted n c x e) ∙ h))
      | inr x ↦ sound_more n m c f (sym (other n x) ∙ e) h
    ]

    complete_here : (m : ℕ) (f : DerivedFunc) → IsChild vars n0 f m → child_of noted f ≡ Some m
    complete_here m f h = elim (func_cases f f0) [
      | inl e ↦ absurd (new m (subst (λ (g : DerivedFunc). IsChild vars n0 g m) e h))
      | inr e ↦ others f e ∙ complete_old n0 m c0 f old h
    ]

    complete_noted : (n m : ℕ) (c : Children) (f : DerivedFunc) → slice_get after n ≡ Some c → IsChild (vars ++ d ∷ []) n f m
        → child_of c f ≡ Some m
    complete_noted n m c f e h = elim (child_cases vars d n f m h) [
      | inl x ↦ elim (number_cases n n0) [
        | inl y ↦ ap (λ (z : Children). child_of z f) (sym (is_noted n c y e))
            ∙ complete_here m f (subst (λ (k : ℕ). IsChild vars k f m) y x)
        | inr y ↦ complete_old n m c f (sym (other n y) ∙ e) x
      ]
      | inr x ↦ at_new m x.0 (sym base ∙ x.1)
    ]
      where
        at_new : (m : ℕ) → m ≡ length vars → ◌≡◌ {A = Option TypeVarParent} (Some (record { type_var = n0; derived_func = f0 }))
            (Some (record { type_var = n; derived_func = f })) → child_of c f ≡ Some m
        at_new m at same =
            let parents = same_Some (record { type_var = n0; derived_func = f0 }) (record { type_var = n; derived_func = f }) same in
            let p : n ≡ n0 = sym (ap (λ (q : TypeVarParent). q.type_var) parents) in
            let g : f ≡ f0 = sym (ap (λ (q : TypeVarParent). q.derived_func) parents) in
            ap (λ (z : Children). child_of z f) (sym (is_noted n c p e)) ∙ ap (child_of noted) g ∙ this ∙ ap Some (sym at)

    pub known_derived : AreKnown (vars ++ d ∷ []) after
    known_derived = record {
      as_many = length-set (children ++ no_children ∷ []) n0 noted ∙ as_many_more;
      sound = sound_noted;
      complete = complete_noted;
    }

-- the same, where what is noted is seen in two ways
pub root_noted : (vars vars' : List TypeVarContent) (children children' : List Children) (d : TypeVarContent) (c : Children)
    → IsRegistry vars → AreKnown vars children → d.base ≡ None → vars' ≡ vars ++ d ∷ [] → c ≡ no_children → children' ≡ children ++ c ∷ []
    → AreKnown vars' children'
root_noted vars vars' children children' d c r known none more e kids =
    let at : AreKnown (vars ++ d ∷ []) (children ++ c ∷ []) =
    subst (λ (x : Children). AreKnown (vars ++ d ∷ []) (children ++ x ∷ [])) (sym e) (known_root vars children d r known none) in
    let there : AreKnown vars' (children ++ c ∷ []) = subst (λ (v : List TypeVarContent). AreKnown v (children ++ c ∷ [])) (sym more) at in
    subst (λ (k : List Children). AreKnown vars' k) (sym kids) there

pub both_stay : (vars vars' : List TypeVarContent) (children children' : List Children) → vars' ≡ vars → children' ≡ children
    → IsRegistry vars × AreKnown vars children → IsRegistry vars' × AreKnown vars' children'
both_stay vars vars' children children' e f h =
    let there : AreKnown vars' children = subst (λ (v : List TypeVarContent). AreKnown v children) (sym e) h.1 in
    (subst IsRegistry (sym e) h.0, subst (λ (k : List Children). AreKnown vars' k) (sym f) there)

pub derived_noted : (vars shown vars' : List TypeVarContent) (children pushed children' : List Children) (n i number : ℕ) (f : DerivedFunc)
    (d : TypeVarContent) (c c0 noted : Children) → vars ≡ shown → IsRegistry vars → AreKnown vars children → IsDerivation shown n f d
    → ((m : ℕ) → IsChild shown n f m → ⊥) → vars' ≡ vars ++ d ∷ [] → c ≡ no_children → pushed ≡ children ++ c ∷ [] → i ≡ n
    → number ≡ length vars → c0 ≡ slice_index_or pushed i c0 → child_of noted f ≡ Some number
    → ((g : DerivedFunc) → g ≢ f → child_of noted g ≡ child_of c0 g) → children' ≡ slice_set pushed i noted → AreKnown vars' children'
derived_noted vars shown vars' children pushed children' n i number f d c c0 noted same r known h new more e push at len read this others
    kids =
    let made : IsDerivation vars n f d = subst (λ (v : List TypeVarContent). IsDerivation v n f d) (sym same) h in
    let first : (m : ℕ) → IsChild vars n f m → ⊥ = subst (λ (v : List TypeVarContent). (m : ℕ) → IsChild v n f m → ⊥) (sym same) new in
    let below = slice_get_within vars n made.parent made.kept in
    let now : pushed ≡ children ++ no_children ∷ [] = push ∙ ap (λ (x : Children). children ++ x ∷ []) e in
    let inside : n < length (children ++ no_children ∷ []) = omega (arith, below, known.as_many, length-append {A = Children}) in
    let old : slice_get (children ++ no_children ∷ []) n ≡ Some c0 =
    slice_get_read (children ++ no_children ∷ []) (length (children ++ no_children ∷ [])) n c0 refl inside (read
    ∙ λ j. slice_index_or (now j) (at j) c0) in
    let k = known_derived vars children d r known n f noted c0 (ap (λ (x : TypeVarContent). x.base) made.is) below first old (this
    ∙ ap Some len) others in
    let there : AreKnown vars' (after vars children d r known n f noted c0 (ap (λ (x : TypeVarContent). x.base) made.is) below first old
    (this ∙ ap Some len) others) = subst (λ (v : List TypeVarContent). AreKnown v (slice_set (children ++ no_children ∷ []) n noted))
    (sym more) k in
    subst (λ (z : List Children). AreKnown vars' z) (sym (kids ∙ λ j. slice_set (now j) (at j) noted)) there
