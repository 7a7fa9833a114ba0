-- One test an operand is one joint choice, for a family of controls.
--     choice_from_tests      where each operand's type passes its rule, one choice fits all
--     passes_from_choice     where one choice fits all, each operand's type passes each rule of it
--     fits_from_choice       and each controlling type fits its control
use Rattle.meta_types.specs.Function.{Function}
use Rattle.std.proofs.Common.{◌≡◌, ℕ, List, [], ◌∷◌, ◌++◌, length, Option, None, Some, slice_get, refl, sym, ap, ◌∙◌, subst, inl, inr}
use Rattle.meta_lists.proofs.Places.{get_beside}
use Rattle.meta_types.specs.TypeParts.{TypeParts}
use Rattle.meta_typevar.specs.TypeSetParts.{IsMember}
use Rattle.meta_typevar.specs.Chain.{Agrees}
use Rattle.meta_typevar.specs.Variable.{Variable, Sets}
use Rattle.meta_inst.specs.Instruction.{Instruction, IsOperand, operands}
use Rattle.meta_inst.specs.Acceptance.{IsChosenControl}
use Rattle.meta_inst.specs.Which.{Which}
use Rattle.meta_inst.specs.Constraint.{TypeConstraint, ConcreteType, FreeType, SameType, ByType, IsConstraint, Passes, PassesOwn}
use Rattle.meta_inst.specs.Constraint.{ControlFits}
use Rattle.meta_inst.proofs.Family.{Ruling, AllFit, IsChoice}
use Rattle.meta_inst.proofs.Candidates.{Candidate, RootReason, has_candidate, same_candidate, underived_agrees, step_agrees}
use Rattle.meta_inst.proofs.Choice.{AskedTypes, choose, chosen}

module _ (sets : Sets) (i : Instruction) (controls : Which → Option Variable) (ruling : Ruling sets i controls)
    (c : Which → Option TypeParts) (ts : List TypeParts) where
  -- each operand's type passes its rule
  abbrev pub AllPass : Type 0
  AllPass = (k : ℕ) (w : Variable) (t : TypeParts) → IsOperand i k w → slice_get ts k ≡ Some t → PassesOwn sets controls c w t

  -- the candidate at a place
  at_place : AllFit sets controls c → AllPass → (k : ℕ) (w : Variable) (t : TypeParts) → IsOperand i k w → slice_get ts k ≡ Some t
      → Candidate sets i controls c k w t
  at_place fits pass k w t at_k t_at = has_candidate sets i controls ruling c k w t fits at_k (pass k w t at_k t_at)

  -- the candidates of all places
  asked : AllFit sets controls c → AllPass → AskedTypes (operands i) ts
  asked fits pass k w t at_k t_at = (at_place fits pass k w t at_k t_at).type_of

  -- the choice that the candidates make
  made : AllFit sets controls c → AllPass → ℕ → TypeParts
  made fits pass = choose (operands i) ts (asked fits pass)

  -- it is the candidate at each place
  made_at : (fits : AllFit sets controls c) (pass : AllPass) (k : ℕ) (w : Variable) (t : TypeParts) (at_k : IsOperand i k w)
      (t_at : slice_get ts k ≡ Some t) → made fits pass w.root ≡ (at_place fits pass k w t at_k t_at).type_of
  unfolding made asked
  made_at fits pass k w t at_k t_at =
      chosen (operands i) ts (asked fits pass) (λ j l v x s y at_j at_l s_at y_at r. same_candidate sets i controls ruling c ts j l v x s y
      r at_j at_l s_at y_at (at_place fits pass j v s at_j s_at) (at_place fits pass l x y at_l y_at)) k w t at_k t_at

  -- a candidate of a control's root is the controlling type
  reason_controls : (k : ℕ) (w v : Variable) (a : Which) (t e : TypeParts) → controls a ≡ Some v → w.root ≡ v.root
      → RootReason sets i controls c k w t e → c a ≡ Some e
  reason_controls k w v a t e at r (inl (b, p, is)) = ap c (ruling.one a b v p.variable at p.controls_is (sym r ∙ p.root)) ∙ is
  reason_controls k w v a t e at r (inr (free, why)) = absurd (free (a, record { variable = v; controls_is = at; root = r }))

  -- the choice gives each control its controlling type
  made_controls : (fits : AllFit sets controls c) (pass : AllPass) → length (operands i) ≡ length ts → (a : Which) (o : Option Variable)
      → controls a ≡ o → IsChosenControl (made fits pass) o (c a)
  made_controls fits pass l a None e = subst (λ x. ControlFits sets x (c a)) e (fits a)
  made_controls fits pass l a (Some v) e =
      let used = ruling.used a v e in
      let (t, t_at) = get_beside (operands i) ts used.place used.variable l used.operand in
      let x : Candidate sets i controls c used.place used.variable t = at_place fits pass used.place used.variable t used.operand t_at in
      reason_controls used.place used.variable v a t x.type_of e used.root x.reason
      ∙ ap Some (sym (ap (made fits pass) (sym used.root) ∙ made_at fits pass used.place used.variable t used.operand t_at))

  -- Where each controlling type fits and each operand's type passes its rule, one choice fits all.
  pub choice_from_tests : AllFit sets controls c → AllPass → length (operands i) ≡ length ts
      → (choice : ℕ → TypeParts) × IsChoice sets i controls c ts choice
  choice_from_tests fits pass l = (
    made fits pass,
    record {
      members = λ k w at_k. members k w at_k;
      controlled = λ a. made_controls fits pass l a (controls a) refl;
      agrees = λ k w t at_k t_at. subst (λ r. Agrees w.chain r t) (sym (made_at fits pass k w t at_k t_at))
          (at_place fits pass k w t at_k t_at).agrees;
    },
  )
    where
      -- the choice for an operand's root is a member of its set
      members : (k : ℕ) (w : Variable) → IsOperand i k w → IsMember (sets w.root) (made fits pass w.root)
      members k w at_k =
          let (t, t_at) = get_beside (operands i) ts k w l at_k in
          subst (λ r. IsMember (sets w.root) r) (sym (made_at fits pass k w t at_k t_at)) (at_place fits pass k w t at_k t_at).member

  -- what a choice gives to a control that is there
  pub controlled_at : (choice : ℕ → TypeParts) → IsChoice sets i controls c ts choice → (a : Which) (v : Variable) → controls a ≡ Some v
      → c a ≡ Some (choice v.root)
  controlled_at choice fits a v e = subst (λ o. IsChosenControl choice o (c a)) e (fits.controlled a)

  -- Where one choice fits all, an operand's type passes each rule of it.
  pub passes_from_choice : (choice : ℕ → TypeParts) → IsChoice sets i controls c ts choice → (k : ℕ) (w : Variable) (t : TypeParts)
      → IsOperand i k w → slice_get ts k ≡ Some t → (x : TypeConstraint) → IsConstraint sets controls w x → Passes c x t
  passes_from_choice choice fits k w t at_k t_at (ConcreteType n) r =
      r.only (choice w.root) t (fits.members k w at_k) (fits.agrees k w t at_k t_at)
  passes_from_choice choice fits k w t at_k t_at (FreeType s) r =
      subst (λ y. IsMember y t) (sym r.set) (subst (λ y. IsMember (sets w.root) y)
      (sym (underived_agrees w.chain (choice w.root) t r.underived (fits.agrees k w t at_k t_at))) (fits.members k w at_k))
  passes_from_choice choice fits k w t at_k t_at (SameType a) r =
      controlled_at choice fits a w r.controls_is
      ∙ ap Some (sym (underived_agrees w.chain (choice w.root) t (ruling.underived a w r.controls_is) (fits.agrees k w t at_k t_at)))
  passes_from_choice choice fits k w t at_k t_at (ByType a f) r =
      let one : w.chain ≡ f ∷ [] = r.derived.chain
      ∙ ap (λ (fs : List Function). fs ++ (f ∷ [])) (ruling.underived a r.variable r.controls_is) in (
        choice w.root,
        controlled_at choice fits a r.variable r.controls_is
            ∙ ap (λ n. Some (choice n)) (sym r.derived.root),
        step_agrees w.chain f (choice w.root) t one (fits.agrees k w t at_k t_at),
      )

  -- what a choice gives to a control is a member of its set
  fits_by : (choice : ℕ → TypeParts) → IsChoice sets i controls c ts choice → (a : Which) (o : Option Variable) → controls a ≡ o
      → ControlFits sets o (c a)
  fits_by choice fits a None e = subst (λ o. IsChosenControl choice o (c a)) e (fits.controlled a)
  fits_by choice fits a (Some v) e =
      let used = ruling.used a v e in (
        choice v.root,
        controlled_at choice fits a v e,
        subst (λ r. IsMember (sets r) (choice r)) used.root (fits.members used.place used.variable used.operand),
      )

  -- Where one choice fits all, each controlling type fits its control.
  pub fits_from_choice : (choice : ℕ → TypeParts) → IsChoice sets i controls c ts choice → AllFit sets controls c
  fits_from_choice choice fits a = fits_by choice fits a (controls a) refl
