-- The controlling types determine each result whose chain doesn't end in a relation.
use Rattle.std.proofs.Common.{◌≡◌, ◌+◌, ℕ, List, [], ◌∷◌, ◌++◌, length, All, Option, Some, slice_get, refl, sym, ap, ◌∙◌, subst, inl, inr}
use Rattle.std.proofs.Common.{arith}
use Rattle.std.proofs.lemmas.Option.{same_Some, slice_get_within}
use Rattle.std.proofs.lemmas.List.Elements.{All-nil, All-cons, All-head, All-tail}
use Rattle.meta_types.specs.TypeParts.{TypeParts}
use Rattle.meta_types.specs.Function.{Function, IsFunction}
use Rattle.meta_types.proofs.OneAnswer.{one}
use Rattle.meta_typevar.specs.Chain.{Agrees}
use Rattle.meta_typevar.specs.Variable.{Variable, Sets, underived}
use Rattle.meta_inst.specs.Which.{Which, First, both}
use Rattle.meta_inst.specs.Instruction.{Instruction, IsOperand, controls_of}
use Rattle.meta_inst.specs.Control.{IsControl, HasBadSecond, HasBadDerivation, IsLoneInput}
use Rattle.meta_lists.proofs.Places.{get_beside, get_stays, get_right}
use Rattle.meta_inst.specs.Acceptance.{Accepts}
use Rattle.meta_inst.specs.Constraint.{TypeConstraint, ConcreteType, FreeType, SameType, ByType, IsConstraint, ControlFits}
use Rattle.meta_inst.specs.Inference.{EndsInRelation, IsRootOf, RootHas, IsInferred}
use Rattle.meta_inst.specs.Tables.{DesignatedControls}
use Rattle.meta_inst.proofs.Candidates.{same_variable, underived_agrees}
use Rattle.meta_inst.proofs.Family.{IsUnder, IsSettled, Ruling, IsChoice}
use Rattle.meta_inst.proofs.OneChoice.{controlled_at, fits_from_choice}
use Rattle.meta_inst.proofs.ControlFamily.{ruling_of, choice_of}
use Rattle.meta_inst.proofs.Constrained.{has_constraint}

-- a chain without relations leads from one type to one type
agrees_one : (fs : List Function) (r t u : TypeParts) → All IsFunction fs → Agrees fs r t → Agrees fs r u → t ≡ u
agrees_one [] r t u all a b = a ∙ sym b
agrees_one (f ∷ fs) r t u all (x, s, h) (y, q, k) =
    let is_function = All-head IsFunction f fs all in
    let same : x ≡ y = one f r x y (record { is_function = is_function; steps = s }) (record { is_function = is_function; steps = q }) in
    agrees_one fs x t u (All-tail IsFunction f fs all) h (subst (λ z. Agrees fs z u) (sym same) k)

module _ (sets : Sets) (i : Instruction) (controls : Which → Option Variable) (ruling : Ruling sets i controls) where
  -- an operand with a constraint has no relation in its chain, if it doesn't end in one
  no_relation : (w : Variable) (x : TypeConstraint) → IsConstraint sets controls w x → (EndsInRelation w → ⊥) → All IsFunction w.chain
  no_relation w (ConcreteType t) h ends = h.functions
  no_relation w (FreeType s) h ends = subst (λ fs. All IsFunction fs) (sym h.underived) (All-nil IsFunction)
  no_relation w (SameType a) h ends = subst (λ fs. All IsFunction fs) (sym (ruling.underived a w h.controls_is)) (All-nil IsFunction)
  no_relation w (ByType a f) h ends =
      let chain : w.chain ≡ f ∷ [] = h.derived.chain
      ∙ ap (λ (fs : List Function). fs ++ (f ∷ [])) (ruling.underived a h.variable h.controls_is) in
      let is_function : IsFunction f = (
        (λ e. ends (record { before = h.variable.chain; last = f; chain = h.derived.chain; relation = inl e })),
        (λ e. ends (record { before = h.variable.chain; last = f; chain = h.derived.chain; relation = inr e })),
      ) in
      subst (λ fs. All IsFunction fs) (sym chain) (All-cons IsFunction f [] is_function (All-nil IsFunction))

  module _ (c : Which → Option TypeParts) (w : Variable) where
    -- the root of a variable has one type by the controlling types
    one_root : (r s : TypeParts) → RootHas sets controls c w r → RootHas sets controls c w s → r ≡ s
    one_root r s (inl (a, p, e)) (inl (b, q, g)) =
        same_Some r s (sym e ∙ (ap c (ruling.one a b (underived w.root) (underived w.root) p q refl) ∙ g))
    one_root r s (inl (a, p, e)) (inr (none, n, g)) = absurd (none a p)
    one_root r s (inr (none, n, g)) (inl (b, q, e)) = absurd (none b q)
    one_root r s (inr (none, m, e)) (inr (nothing, n, g)) = e ∙ (n.only m.one m.member ∙ sym g)

    -- so one type is inferred
    pub one_inferred : (x : TypeConstraint) → IsConstraint sets controls w x → (EndsInRelation w → ⊥) → (t u : TypeParts)
        → IsInferred sets controls c w t → IsInferred sets controls c w u → t ≡ u
    one_inferred x is ends t u a b =
        agrees_one w.chain a.root_type t u (no_relation w x is ends) a.agrees
        (subst (λ r. Agrees w.chain r u) (one_root b.root_type a.root_type b.root a.root) b.agrees)

    -- a control with the root of w is the root of w
    pub root_of : (a : Which) → IsUnder controls w a → IsRootOf controls a w
    root_of a p =
        p.controls_is ∙ ap Some (same_variable p.variable (underived w.root) (sym p.root) (ruling.underived a p.variable p.controls_is))

    -- what is chosen for the root of a settled operand that is no lone input
    root_chosen : (ts : List TypeParts) (choice : ℕ → TypeParts) → IsChoice sets i controls c ts choice → (k : ℕ) → IsOperand i k w
        → (IsLoneInput i k w → ⊥) → IsSettled sets i controls k w → RootHas sets controls c w (choice w.root)
    root_chosen ts choice fits k at result (inl (a, p)) =
        inl (a, root_of a p, controlled_at sets i controls ruling c ts choice fits a (underived w.root) (root_of a p))
    root_chosen ts choice fits k at result (inr (none, inl one_type)) =
        inr (
          (λ a e. none (a, record { variable = underived w.root; controls_is = e; root = refl })),
          one_type,
          one_type.only (choice w.root) (fits.members k w at),
        )
    root_chosen ts choice fits k at result (inr (none, inr lone)) = absurd (result lone)

module _ (sets : Sets) (i : Instruction) (control : Option Variable) (c d : Option TypeParts) (rs vs : List TypeParts)
    (h : IsControl sets i control) (second : HasBadSecond sets i → ⊥) where
  -- In an accepted combination each result's type is inferred.
  pub result_inferred : Accepts sets i control c d rs vs → (k : ℕ) (w : Variable) (t : TypeParts) → slice_get i.results k ≡ Some w
      → slice_get rs k ≡ Some t → IsInferred sets (controls_of i control) (both c d) w t
  result_inferred a k w t at_k t_at =
      let ruling = ruling_of sets i control h second in
      let at = get_stays i.results i.values k w at_k in
      let within = slice_get_within i.results k w at_k in
      record {
        root_type = a.choice w.root;
        root = root_chosen sets i (controls_of i control) ruling (both c d) w (rs ++ vs) a.choice
            (choice_of sets i control c d rs vs h second a) k at (λ lone. let past = lone.is_input in omega arith) (ruling.settled k w at);
        agrees = a.agrees k w t at (get_stays rs vs k t t_at);
      }

-- No other type is inferred for a result whose chain doesn't end in a relation.
pub only_inferred : (sets : Sets) (i : Instruction) (control : Option Variable) (c d : Option TypeParts) → IsControl sets i control
    → (HasBadSecond sets i → ⊥) → ((k : ℕ) → HasBadDerivation sets i control k → ⊥)
    → (k : ℕ) (w : Variable) → slice_get i.results k ≡ Some w → (EndsInRelation w → ⊥) → (t u : TypeParts)
    → IsInferred sets (controls_of i control) (both c d) w t → IsInferred sets (controls_of i control) (both c d) w u → t ≡ u
only_inferred sets i control c d h second good k w at_k ends t u a b =
    let (x, is) = has_constraint sets i control h second good k w (get_stays i.results i.values k w at_k) in
    one_inferred sets i (controls_of i control) (ruling_of sets i control h second) (both c d) w x is ends t u a b

-- Where the variable at a value input controls, its type is the controlling type.
pub control_typed : (sets : Sets) (i : Instruction) (control : Option Variable) (c d : Option TypeParts) (rs vs : List TypeParts)
    → IsControl sets i control → (HasBadSecond sets i → ⊥) → Accepts sets i control c d rs vs
    → (k : ℕ) (a : Which) (w : Variable) (t : TypeParts) → slice_get i.values k ≡ Some w → slice_get vs k ≡ Some t
    → controls_of i control a ≡ Some w → both c d a ≡ Some t
control_typed sets i control c d rs vs h second x k a w t at_k t_at is =
    let ruling = ruling_of sets i control h second in
    let at : IsOperand i (length i.results + k) w = get_right i.results i.values k ∙ at_k in
    let place : slice_get (rs ++ vs) (length i.results + k) ≡ Some t = ap (λ n. slice_get (rs ++ vs) (n + k)) (sym x.results)
    ∙ (get_right rs vs k ∙ t_at) in
    controlled_at sets i (controls_of i control) ruling (both c d) (rs ++ vs) x.choice
    (choice_of sets i control c d rs vs h second x) a w is
    ∙ ap Some (sym (underived_agrees w.chain (x.choice w.root) t (ruling.underived a w is)
    (x.agrees (length i.results + k) w t at place)))

-- Where the designated operand's variable controls, the designated value has the controlling type.
pub designated_typed : (sets : Sets) (i : Instruction) (control : Option Variable) (c d : Option TypeParts) (rs vs : List TypeParts)
    → IsControl sets i control → (HasBadSecond sets i → ⊥) → Accepts sets i control c d rs vs
    → DesignatedControls i control → (place : ℕ) → i.designated ≡ Some place
    → (t : TypeParts) × (slice_get vs place ≡ Some t) × (c ≡ Some t)
designated_typed sets i control c d rs vs h second x (v, is, to) place designates =
    let same : to.place ≡ place = same_Some to.place place (sym to.designates ∙ designates) in
    let at : slice_get i.values place ≡ Some v = ap (slice_get i.values) (sym same) ∙ to.is_value in
    let (t, t_at) = get_beside i.values vs place v (sym x.values) at in
    (t, t_at, control_typed sets i control c d rs vs h second x place First v t at t_at is)

-- In an accepted combination each controlling type fits its control.
pub types_fit : (sets : Sets) (i : Instruction) (control : Option Variable) (c d : Option TypeParts) (rs vs : List TypeParts)
    → IsControl sets i control → (HasBadSecond sets i → ⊥) → Accepts sets i control c d rs vs → (a : Which)
    → ControlFits sets (controls_of i control a) (both c d a)
types_fit sets i control c d rs vs h second x a =
    fits_from_choice sets i (controls_of i control) (ruling_of sets i control h second) (both c d) (rs ++ vs) x.choice
    (choice_of sets i control c d rs vs h second x) a
