-- The controls by the numbers of their variables, and as variables.
use Rattle.std.proofs.Common.{◌≡◌, ◌<◌, ◌↔◌, ℕ, List, length, Bool, IsTrue, Option, None, Some, IfSome, IfNone, sym, ap, ◌∙◌}
use Rattle.std.specs.Prelude.{option_map, is_some}
use Rattle.std.proofs.lemmas.Bool.{false≢true}
use Rattle.std.proofs.lemmas.Option.{same_Some}
use Rattle.meta_lists.proofs.Options.{mapped}
use Rattle.meta_typevar.specs.Variable.{Variable}
use Rattle.meta_typevar.specs.Registry.{variable_at, IsRegistry}
use Rattle.meta_typevar.specs.declared.content.TypeVarContent.{TypeVarContent}
use Rattle.meta_typevar.proofs.Variables.{one_variable}
use Rattle.meta_inst.specs.Which.{Which, First, Second, both}
use Rattle.meta_inst.specs.Controls.{which_of, IsOneOf, AreControlsOf, controls_at}
use Rattle.meta_inst.specs.Operands.{SecondIsOf}
use Rattle.meta_inst.specs.FoundControl.{IsOf, control_number}
use Rattle.meta_inst.specs.declared.controls.Which.{Which as WhichType}
use Rattle.meta_inst.specs.declared.operands.Controlling.{Controlling}
use Rattle.meta_inst.specs.declared.operands.Controlling.TheVariants.{NotPolymorphic, By, Missing}

-- ---- what the tests tell

pub neither : (controls : Which → Option ℕ) (n : ℕ) → (controls First ≡ Some n → ⊥) → (controls Second ≡ Some n → ⊥) → IsOneOf controls n
    → ⊥
neither controls n f s (First, e) = f e
neither controls n f s (Second, e) = s e

pub the_other : (controls : Which → Option ℕ) (n : ℕ) → (controls First ≡ Some n → ⊥) → IsOneOf controls n → controls Second ≡ Some n
the_other controls n f (First, e) = absurd (f e)
the_other controls n f (Second, e) = e

pub found_one : (controls : Which → Option ℕ) (n : ℕ) (o : Option WhichType) (b : Bool) → IfSome o (λ a. controls (which_of a) ≡ Some n)
    → IfNone o (IsOneOf controls n → ⊥) → b ≡ is_some o → IsTrue b ↔ IsOneOf controls n
found_one controls n (Some a) b found none is = (λ t. (which_of a, found), λ h. is)
found_one controls n None b found none is = (λ t. absurd (false≢true (sym is ∙ t)), λ h. absurd (none h))

-- ---- variables

module _ (vars : List TypeVarContent) (controls : Which → Option ℕ) where
  -- a control by its number, and as a variable
  pub control_is : (a : Which) (n : ℕ) → controls a ≡ Some n → controls_at vars controls a ≡ Some (variable_at vars n)
  control_is First n e = ap (option_map (variable_at vars)) e
  control_is Second n e = ap (option_map (variable_at vars)) e

  pub control_numbered : (a : Which) (w : Variable) → controls_at vars controls a ≡ Some w
      → (m : ℕ) × (controls a ≡ Some m) × (variable_at vars m ≡ w)
  control_numbered First w e = mapped (variable_at vars) (controls First) w e
  control_numbered Second w e = mapped (variable_at vars) (controls Second) w e

  -- a variable that is a control has its number
  pub control_from : IsRegistry vars → AreControlsOf vars controls → (a : Which) (n : ℕ) → n < length vars
      → controls_at vars controls a ≡ Some (variable_at vars n) → controls a ≡ Some n
  control_from registry of a n l e =
      let (m, is, same) = control_numbered a (variable_at vars n) e in
      is ∙ ap Some (one_variable vars registry m n (of a m is) l same)

-- both are of the registry where each is
pub both_are_of : (vars : List TypeVarContent) (first second : Option ℕ) → ((v : ℕ) → first ≡ Some v → v < length vars)
    → SecondIsOf vars second → AreControlsOf vars (both first second)
both_are_of vars first second f s First = f
both_are_of vars first second f s Second = s

-- what was found, where it is of the registry, has its number there
pub number_is_of : (vars : List TypeVarContent) (c : Controlling) → IsOf vars c → (v : ℕ) → control_number c ≡ Some v → v < length vars
number_is_of vars NotPolymorphic of v e = absurd (cc)
number_is_of vars (By u) of v e = of v (ap By (same_Some u v e))
number_is_of vars Missing of v e = absurd (cc)
