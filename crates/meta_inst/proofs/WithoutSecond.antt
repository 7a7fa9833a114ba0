-- Where no second control is named, the definitions for two controls are those for one.
use Rattle.std.proofs.Common.{◌≡◌, ◌↔◌, ℕ, ◌⊎◌, List, Option, None, Some, refl, sym, ◌∙◌, subst, inl, inr}
use Rattle.std.proofs.lemmas.Option.{none-some}
use Rattle.meta_types.specs.TypeParts.{TypeParts}
use Rattle.meta_typevar.specs.TypeSetParts.{HasOne}
use Rattle.meta_typevar.specs.Variable.{Variable, Sets}
use Rattle.meta_inst.specs.Instruction.{Instruction, IsDesignated, IsFirstOutput}
use Rattle.meta_inst.specs.Control.{IsControl, IsRuled, IsLoneInput, MayControl, DesignatesNone, HasBadSecond}
use Rattle.meta_inst.specs.Acceptance.{Accepts, IsChosenControl}
use Rattle.meta_inst.specs.OneControl.{MayControlAlone, DesignatesNoneAlone, IsControlAlone, AcceptsAlone}

module _ (sets : Sets) (i : Instruction) (none : i.second ≡ None) where
  -- nothing is the second control
  not_second : (v : Variable) → i.second ≡ Some v → ⊥
  not_second v e = none-some v (sym none ∙ e)

  may_to : (v : Variable) → MayControl sets i v → MayControlAlone sets i v
  may_to v m = record { underived = m.underived; others = λ k w at. by_rule k w (m.others k w at) }
    where
      by_rule : (k : ℕ) (w : Variable) → IsRuled sets i v k w → (w.root ≡ v.root) ⊎ HasOne (sets w.root) ⊎ IsLoneInput i k w
      by_rule k w (inl r) = inl r
      by_rule k w (inr (inl s)) = absurd (none-some _ (sym none ∙ s))
      by_rule k w (inr (inr why)) = inr why

  may_from : (v : Variable) → MayControlAlone sets i v → MayControl sets i v
  may_from v m = record { underived = m.underived; not_second = not_second v; others = λ k w at. by_rule k w (m.others k w at) }
    where
      by_rule : (k : ℕ) (w : Variable) → (w.root ≡ v.root) ⊎ HasOne (sets w.root) ⊎ IsLoneInput i k w → IsRuled sets i v k w
      by_rule k w (inl r) = inl r
      by_rule k w (inr why) = inr (inr why)

  chosen_to : (v : Variable) → IsDesignated i v ⊎ (DesignatesNone sets i × IsFirstOutput i v)
      → IsDesignated i v ⊎ (DesignatesNoneAlone sets i × IsFirstOutput i v)
  chosen_to v (inl d) = inl d
  chosen_to v (inr (nothing, f)) = inr ((λ d is m. nothing d is (may_from d m)), f)

  chosen_from : (v : Variable) → IsDesignated i v ⊎ (DesignatesNoneAlone sets i × IsFirstOutput i v)
      → IsDesignated i v ⊎ (DesignatesNone sets i × IsFirstOutput i v)
  chosen_from v (inl d) = inl d
  chosen_from v (inr (nothing, f)) = inr ((λ d is m. nothing d is (may_to d m)), f)

  control_to : (control : Option Variable) → IsControl sets i control → IsControlAlone sets i control
  control_to None h = h
  control_to (Some v) h = record { polymorphic = h.polymorphic; may = may_to v h.may; chosen = chosen_to v h.chosen }

  control_from : (control : Option Variable) → IsControlAlone sets i control → IsControl sets i control
  control_from None h = h
  control_from (Some v) h = record { polymorphic = h.polymorphic; may = may_from v h.may; chosen = chosen_from v h.chosen }

  accepts_to : (control : Option Variable) (c d : Option TypeParts) (rs vs : List TypeParts) → Accepts sets i control c d rs vs
      → AcceptsAlone sets i control c rs vs × (d ≡ None)
  accepts_to control c d rs vs a = (
    record { results = a.results; values = a.values; choice = a.choice; members = a.members; controlled = a.controlled; agrees = a.agrees },
    subst (λ o. IsChosenControl a.choice o d) none a.second_controlled,
  )

  accepts_from : (control : Option Variable) (c d : Option TypeParts) (rs vs : List TypeParts)
      → AcceptsAlone sets i control c rs vs × (d ≡ None) → Accepts sets i control c d rs vs
  accepts_from control c d rs vs (a, e) = record {
    results = a.results;
    values = a.values;
    choice = a.choice;
    members = a.members;
    controlled = a.controlled;
    second_controlled = subst (λ o. IsChosenControl a.choice o d) (sym none) e;
    agrees = a.agrees;
  }

-- An instruction without a second control has the same control.
pub same_alone : (sets : Sets) (i : Instruction) (control : Option Variable) → i.second ≡ None
    → (IsControl sets i control ↔ IsControlAlone sets i control)
same_alone sets i control none = ((λ h. control_to sets i none control h), (λ h. control_from sets i none control h))

-- It accepts the same, and no second controlling type.
pub accepts_alone : (sets : Sets) (i : Instruction) (control : Option Variable) (c d : Option TypeParts) (rs vs : List TypeParts)
    → i.second ≡ None → (Accepts sets i control c d rs vs ↔ (AcceptsAlone sets i control c rs vs × (d ≡ None)))
accepts_alone sets i control c d rs vs none =
    ((λ a. accepts_to sets i none control c d rs vs a), (λ a. accepts_from sets i none control c d rs vs a))

-- And nothing is wrong with its second control.
pub none_bad : (sets : Sets) (i : Instruction) → i.second ≡ None → HasBadSecond sets i → ⊥
none_bad sets i none (s, e, why) = none-some s (sym none ∙ e)

-- There is a second control only beside a control.
pub needs_control : (sets : Sets) (i : Instruction) → IsControl sets i None → (HasBadSecond sets i → ⊥) → i.second ≡ None
needs_control sets i h good = by_second i.second refl
  where
    by_second : (o : Option Variable) → i.second ≡ o → i.second ≡ None
    by_second None e = e
    by_second (Some s) e = absurd (good (s, e, inr (inr h)))
