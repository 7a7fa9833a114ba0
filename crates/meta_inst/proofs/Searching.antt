-- What was found of a control says what the instruction shows.
use Rattle.std.proofs.Common.{◌≡◌, ℕ, Option, None, Some, List, refl, subst}
use Rattle.meta_typevar.specs.Variable.{Variable}
use Rattle.meta_typevar.specs.Registry.{sets_of, variable_at}
use Rattle.meta_typevar.specs.declared.content.TypeVarContent.{TypeVarContent}
use Rattle.meta_inst.specs.Instruction.{Instruction}
use Rattle.meta_inst.specs.Control.{IsControl, HasNoControl, HasBadDerivation, IsFirstBadDerivation, DerivesBadly}
use Rattle.meta_inst.specs.FoundControl.{control_in, IsFound}
use Rattle.meta_inst.specs.declared.operands.Controlling.{Controlling}
use Rattle.meta_inst.specs.declared.operands.Controlling.TheVariants.{NotPolymorphic, By, Missing}
use Rattle.meta_inst.proofs.OneControl.{same_control, control_not_missing}

module _ (vars : List TypeVarContent) (i : Instruction) where
  -- what was found, where it is that a control is missing
  pub missing_lacks : (c : Controlling) → IsFound vars i c → c ≡ Missing → HasNoControl (sets_of vars) i
  missing_lacks c h e = subst (IsFound vars i) e h

  -- and where it isn't
  pub found_controls : (c : Controlling) → IsFound vars i c → (c ≡ Missing → ⊥) → HasNoControl (sets_of vars) i → ⊥
  found_controls NotPolymorphic h there lack = control_not_missing (sets_of vars) i None h lack
  found_controls (By v) h there lack = control_not_missing (sets_of vars) i (Some (variable_at vars v)) h lack
  found_controls Missing h there lack = there refl

  -- the control that was found is the instruction's
  pub is_found : (c : Controlling) → IsFound vars i c → (HasNoControl (sets_of vars) i → ⊥) → IsControl (sets_of vars) i (control_in vars c)
  is_found NotPolymorphic h controlled = h
  is_found (By v) h controlled = h
  is_found Missing h controlled = absurd (controlled h)

  module _ (c : Controlling) (found : IsFound vars i c) (controlled : HasNoControl (sets_of vars) i → ⊥) where
    -- what the search found, and that it found nothing
    pub search_found : (k : ℕ) → IsFirstBadDerivation (sets_of vars) i (control_in vars c) k → DerivesBadly (sets_of vars) i k
    search_found k f = record { control = control_in vars c; is_control = is_found c found controlled; first = f }

    pub search_clean : ((k : ℕ) → HasBadDerivation (sets_of vars) i (control_in vars c) k → ⊥) → (place : ℕ)
        → DerivesBadly (sets_of vars) i place → ⊥
    search_clean none place h =
        let same : h.control ≡ control_in vars c = same_control (sets_of vars) i h.control
        (control_in vars c) h.is_control (is_found c found controlled) in
        none place (subst (λ (x : Option Variable). HasBadDerivation (sets_of vars) i x place) same h.first.bad)
