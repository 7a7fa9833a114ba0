-- The control and the second control of an instruction rule it.
--     under_or_not        whether a variable has the root of a control is decided
--     ruling_of           the four facts hold of the two controls
--     admits_from_accepts, accepts_from_admits      one test an operand is one joint choice, where each operand has a constraint
use Rattle.std.proofs.Common.{◌≡◌, ◌≢◌, ◌+◌, ℕ, zero, suc, ◌⊎◌, List, [], ◌∷◌, ◌++◌, length, Option, None, Some, slice_get, refl, sym, ap}
use Rattle.std.proofs.Common.{ap₂, ◌∙◌, subst, inl, inr, length-append}
use Rattle.std.proofs.lemmas.Bool.{cases_eq}
use Rattle.std.proofs.lemmas.Option.{same_Some, none-some}
use Rattle.meta_lists.proofs.Places.{get_stays, get_right}
use Rattle.meta_types.specs.TypeParts.{TypeParts}
use Rattle.meta_types.specs.Function.{Function}
use Rattle.meta_typevar.specs.TypeSetParts.{HasOne}
use Rattle.meta_typevar.specs.Variable.{Variable, Sets, underived}
use Rattle.meta_inst.specs.Which.{Which, First, Second, both}
use Rattle.meta_inst.specs.Instruction.{Instruction, IsOperand, IsDesignated, IsFirstOutput, operands, controls_of}
use Rattle.meta_inst.specs.Control.{IsControl, DesignatesNone, IsRuled, IsLoneInput, HasBadSecond}
use Rattle.meta_inst.specs.Acceptance.{Accepts, IsChosenControl}
use Rattle.meta_inst.specs.Constraint.{TypeConstraint, IsConstraint, PassesOwn, ControlFits, Admits}
use Rattle.meta_inst.proofs.Candidates.{same_variable}
use Rattle.meta_inst.proofs.Family.{IsControlled, IsUsed, IsSettled, Ruling, AllFit, IsChoice}
use Rattle.meta_inst.proofs.OneChoice.{choice_from_tests, passes_from_choice, fits_from_choice}

-- whether a control that may be there has the root of w
rooted_or_not : (o : Option Variable) (w : Variable) → ((v : Variable) × (o ≡ Some v) × (w.root ≡ v.root))
    ⊎ ((v : Variable) → o ≡ Some v → w.root ≡ v.root → ⊥)
rooted_or_not None w = inr (λ v e. absurd (none-some v e))
rooted_or_not (Some v) w = by_case (cases_eq w.root v.root)
  where
    by_case : (w.root ≡ v.root) ⊎ (w.root ≡ v.root → ⊥) → ((u : Variable) × (Some v ≡ Some u) × (w.root ≡ u.root))
        ⊎ ((u : Variable) → Some v ≡ Some u → w.root ≡ u.root → ⊥)
    by_case (inl r) = inl (v, refl, r)
    by_case (inr other) = inr (λ u e r. other (r ∙ ap (λ (x : Variable). x.root) (sym (same_Some v u e))))

-- Whether a variable has the root of a control.
pub under_or_not : (controls : Which → Option Variable) (w : Variable) → IsControlled controls w ⊎ (IsControlled controls w → ⊥)
under_or_not controls w = by_both (rooted_or_not (controls First) w) (rooted_or_not (controls Second) w)
  where
    by_both : ((v : Variable) × (controls First ≡ Some v) × (w.root ≡ v.root))
        ⊎ ((v : Variable) → controls First ≡ Some v → w.root ≡ v.root → ⊥)
        → ((v : Variable) × (controls Second ≡ Some v) × (w.root ≡ v.root))
        ⊎ ((v : Variable) → controls Second ≡ Some v → w.root ≡ v.root → ⊥)
        → IsControlled controls w ⊎ (IsControlled controls w → ⊥)
    by_both (inl (v, e, r)) second = inl (First, record { variable = v; controls_is = e; root = r })
    by_both (inr none) (inl (v, e, r)) = inl (Second, record { variable = v; controls_is = e; root = r })
    by_both (inr none) (inr nothing) = inr neither
      where
        neither : IsControlled controls w → ⊥
        neither (First, p) = none p.variable p.controls_is p.root
        neither (Second, p) = nothing p.variable p.controls_is p.root

-- whether a root stands in a list of variables
root_stands : (ws : List Variable) (r : ℕ) → ((k : ℕ) × (w : Variable) × (slice_get ws k ≡ Some w) × (w.root ≡ r))
    ⊎ ((k : ℕ) (w : Variable) → slice_get ws k ≡ Some w → w.root ≢ r)
root_stands [] r = inr (λ k w at. absurd (none-some w at))
root_stands (v ∷ ws) r = by_case (cases_eq v.root r) (root_stands ws r)
  where
    by_case : (v.root ≡ r) ⊎ (v.root ≡ r → ⊥) → ((k : ℕ) × (w : Variable) × (slice_get ws k ≡ Some w) × (w.root ≡ r))
        ⊎ ((k : ℕ) (w : Variable) → slice_get ws k ≡ Some w → w.root ≢ r)
        → ((k : ℕ) × (w : Variable) × (slice_get (v ∷ ws) k ≡ Some w) × (w.root ≡ r))
        ⊎ ((k : ℕ) (w : Variable) → slice_get (v ∷ ws) k ≡ Some w → w.root ≢ r)
    by_case (inl e) rest = inl (0, v, refl, e)
    by_case (inr other) (inl (k, w, at, e)) = inl (suc k, w, at, e)
    by_case (inr other) (inr none) = inr nowhere
      where
        nowhere : (k : ℕ) (w : Variable) → slice_get (v ∷ ws) k ≡ Some w → w.root ≢ r
        nowhere zero w at e = other (ap (λ (x : Variable). x.root) (same_Some v w at) ∙ e)
        nowhere (suc k) w at e = none k w at e

-- the designated operand's variable is an operand
designated_used : (i : Instruction) (v : Variable) → IsDesignated i v → IsUsed i v
designated_used i v d = record {
  place = length i.results + d.place;
  variable = v;
  operand = get_right i.results i.values d.place
      ∙ d.is_value;
  root = refl;
}

-- so is the first output's, if that is a value
first_used : (i : Instruction) (v : Variable) → IsFirstOutput i v → IsUsed i v
first_used i v f = record { place = 0; variable = v; operand = get_stays i.results i.values 0 v f.first; root = refl }

-- so is the control
control_used : (sets : Sets) (i : Instruction) (v : Variable) → IsDesignated i v ⊎ (DesignatesNone sets i × IsFirstOutput i v) → IsUsed i v
control_used sets i v (inl d) = designated_used i v d
control_used sets i v (inr (_, f)) = first_used i v f

module _ (sets : Sets) (i : Instruction) (good : HasBadSecond sets i → ⊥) where
  -- a second control that isn't bad is underived
  second_underived : (s : Variable) → i.second ≡ Some s → s.chain ≡ []
  second_underived s e = by_chain s.chain refl
    where
      by_chain : (fs : List Function) → s.chain ≡ fs → s.chain ≡ []
      by_chain [] d = d
      by_chain (f ∷ fs) d = absurd (good (s, e, inl (λ none. let h : f ∷ fs ≡ [] = sym d ∙ none in cc)))

  -- and its root is used
  second_used : (s : Variable) → i.second ≡ Some s → IsUsed i s
  second_used s e = by_case (root_stands (operands i) s.root)
    where
      by_case : ((k : ℕ) × (w : Variable) × (slice_get (operands i) k ≡ Some w) × (w.root ≡ s.root))
          ⊎ ((k : ℕ) (w : Variable) → slice_get (operands i) k ≡ Some w → w.root ≢ s.root) → IsUsed i s
      by_case (inl (k, w, at, r)) = record { place = k; variable = w; operand = at; root = r }
      by_case (inr none) = absurd (good (s, e, inr (inl none)))

-- what is under a control, has one type or is a lone input, is settled
settled : (sets : Sets) (i : Instruction) (controls : Which → Option Variable) (k : ℕ) (w : Variable)
    → IsControlled controls w ⊎ (IsControlled controls w → ⊥)
    → IsControlled controls w ⊎ HasOne (sets w.root) ⊎ IsLoneInput i k w → IsSettled sets i controls k w
settled sets i controls k w (inl under) why = inl under
settled sets i controls k w (inr none) (inl under) = absurd (none under)
settled sets i controls k w (inr none) (inr why) = inr (none, why)

-- each operand is under a control, has one type or is a lone input
why_settled : (sets : Sets) (i : Instruction) (control : Option Variable) → IsControl sets i control → (k : ℕ) (w : Variable)
    → IsOperand i k w → IsControlled (controls_of i control) w ⊎ HasOne (sets w.root) ⊎ IsLoneInput i k w
why_settled sets i None h k w at = inr (inl (h k w at))
why_settled sets i (Some v) h k w at = by_rule (h.may.others k w at)
  where
    by_rule : IsRuled sets i v k w → IsControlled (controls_of i (Some v)) w ⊎ HasOne (sets w.root) ⊎ IsLoneInput i k w
    by_rule (inl r) = inl (First, record { variable = v; controls_is = refl; root = r })
    by_rule (inr (inl s)) = inl (Second, record { variable = underived w.root; controls_is = s; root = refl })
    by_rule (inr (inr why)) = inr why

-- the control is underived, its root is used, and the second control isn't it
control_underived : (sets : Sets) (i : Instruction) (control : Option Variable) → IsControl sets i control → (v : Variable)
    → control ≡ Some v → v.chain ≡ []
control_underived sets i None h v e = absurd (none-some v e)
control_underived sets i (Some w) h v e = subst (λ (x : Variable). x.chain ≡ []) (same_Some w v e) h.may.underived

control_is_used : (sets : Sets) (i : Instruction) (control : Option Variable) → IsControl sets i control → (v : Variable)
    → control ≡ Some v → IsUsed i v
control_is_used sets i None h v e = absurd (none-some v e)
control_is_used sets i (Some w) h v e = subst (λ (x : Variable). IsUsed i x) (same_Some w v e) (control_used sets i w h.chosen)

not_the_second : (sets : Sets) (i : Instruction) (control : Option Variable) → IsControl sets i control → (v : Variable) → control ≡ Some v
    → i.second ≢ Some v
not_the_second sets i None h v e = absurd (none-some v e)
not_the_second sets i (Some w) h v e = subst (λ (x : Variable). i.second ≢ Some x) (same_Some w v e) h.may.not_second

-- The two controls of an instruction rule it.
pub ruling_of : (sets : Sets) (i : Instruction) (control : Option Variable) → IsControl sets i control → (HasBadSecond sets i → ⊥)
    → Ruling sets i (controls_of i control)
ruling_of sets i control h good = record {
  underived = under;
  one = one;
  used = used;
  settled = λ k w at. settled sets i (controls_of i control) k w (under_or_not (controls_of i control) w)
      (why_settled sets i control h k w at);
}
  where
    under : (a : Which) (v : Variable) → controls_of i control a ≡ Some v → v.chain ≡ []
    under First v e = control_underived sets i control h v e
    under Second v e = second_underived sets i good v e

    used : (a : Which) (v : Variable) → controls_of i control a ≡ Some v → IsUsed i v
    used First v e = control_is_used sets i control h v e
    used Second v e = second_used sets i good v e

    -- the two have two roots
    apart : (u v : Variable) → control ≡ Some u → i.second ≡ Some v → u.root ≡ v.root → ⊥
    apart u v d e r =
        let same : v ≡ u = same_variable v u (sym r) (second_underived sets i good v e ∙ sym (control_underived sets i control h u d)) in
        not_the_second sets i control h u d (e ∙ ap Some same)

    one : (a b : Which) (u v : Variable) → controls_of i control a ≡ Some u → controls_of i control b ≡ Some v → u.root ≡ v.root → a ≡ b
    one First First u v d e r = refl
    one First Second u v d e r = absurd (apart u v d e r)
    one Second First u v d e r = absurd (apart v u e d (sym r))
    one Second Second u v d e r = refl

-- two lists of the right lengths are as long as the operands
pub as_long : (i : Instruction) (rs vs : List TypeParts) → length rs ≡ length i.results → length vs ≡ length i.values
    → length (operands i) ≡ length (rs ++ vs)
as_long i rs vs r v = length-append i.results i.values ∙ (sym (ap₂ (λ (m n : ℕ). m + n) r v) ∙ sym (length-append rs vs))

module _ (sets : Sets) (i : Instruction) (control : Option Variable) (c d : Option TypeParts) (rs vs : List TypeParts)
    (h : IsControl sets i control) (good : HasBadSecond sets i → ⊥) where
  ruling : Ruling sets i (controls_of i control)
  ruling = ruling_of sets i control h good

  -- the two controlling types fit
  all_fit : ControlFits sets control c → ControlFits sets i.second d → AllFit sets (controls_of i control) (both c d)
  all_fit f g First = f
  all_fit f g Second = g

  -- the controlling types of a choice
  controlled : (choice : ℕ → TypeParts) → IsChosenControl choice control c → IsChosenControl choice i.second d → (a : Which)
      → IsChosenControl choice (controls_of i control a) (both c d a)
  controlled choice f g First = f
  controlled choice f g Second = g

  -- One test an operand gives one joint choice.
  pub accepts_from_admits : Admits sets i control c d rs vs → Accepts sets i control c d rs vs
  accepts_from_admits a =
      let (choice, fits) = choice_from_tests sets i (controls_of i control) ruling (both c d) (rs ++ vs)
      (all_fit a.control_fits a.second_fits) a.passes (as_long i rs vs a.results a.values) in
      record {
        results = a.results;
        values = a.values;
        choice = choice;
        members = fits.members;
        controlled = fits.controlled First;
        second_controlled = fits.controlled Second;
        agrees = fits.agrees;
      }

  -- the choice of what is accepted
  pub choice_of : (a : Accepts sets i control c d rs vs) → IsChoice sets i (controls_of i control) (both c d) (rs ++ vs) a.choice
  choice_of a = record { members = a.members; controlled = controlled a.choice a.controlled a.second_controlled; agrees = a.agrees }

  -- One joint choice gives one test an operand, where each operand has a constraint.
  pub admits_from_accepts : ((k : ℕ) (w : Variable) → IsOperand i k w → (x : TypeConstraint)
      × IsConstraint sets (controls_of i control) w x) → Accepts sets i control c d rs vs → Admits sets i control c d rs vs
  admits_from_accepts constrained a = record {
    results = a.results;
    values = a.values;
    control_fits = fits First;
    second_fits = fits Second;
    passes = passes;
  }
    where
      fits : AllFit sets (controls_of i control) (both c d)
      fits = fits_from_choice sets i (controls_of i control) ruling (both c d) (rs ++ vs) a.choice (choice_of a)

      -- each operand's type passes its constraint
      passes : (k : ℕ) (w : Variable) (t : TypeParts) → IsOperand i k w → slice_get (rs ++ vs) k ≡ Some t
          → PassesOwn sets (controls_of i control) (both c d) w t
      passes k w t at_k t_at =
          let (x, is) = constrained k w at_k in (
            x,
            is,
            passes_from_choice sets i (controls_of i control) ruling (both c d) (rs ++ vs) a.choice
                (choice_of a) k w t at_k t_at x is,
          )
