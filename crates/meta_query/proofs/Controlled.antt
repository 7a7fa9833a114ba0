-- What controls an instruction of a shape, and what its type sets are.
use Rattle.std.proofs.Common.{◌≡◌, ◌⊎◌, inl, inr, ⊎_elim, ◌+◌, ℕ, zero, suc, Bool, true, false, List, [], ◌∷◌, length, map, slice_get}
use Rattle.std.proofs.Common.{Option, None, Some, refl, sym, ap, subst, ◌∙◌}
use Rattle.std.proofs.lemmas.Option.{same_Some}
use Rattle.meta_lists.proofs.Places.{get_stays, get_right}
use Rattle.meta_types.specs.Function.{Function, AsTruthy, Narrower}
use Rattle.meta_typevar.specs.TypeSetParts.{TypeSetParts, HasOne}
use Rattle.meta_typevar.specs.Variable.{Variable, Sets, underived, longer}
use Rattle.meta_inst.specs.Which.{Which, First, Second}
use Rattle.meta_inst.specs.Instruction.{Instruction, IsOperand, controls_of}
use Rattle.meta_inst.specs.Control.{MayControl, IsControl, IsControlledBy, HasNoControl, HasBadSecond, HasBadDerivation, DerivesBadly}
use Rattle.meta_inst.specs.InstructionSet.{designated_in}
use Rattle.meta_inst.specs.Faults.{IsControlSet, IsFreeSet}
use Rattle.meta_query.specs.declared.shape.Shape.{Shape}
use Rattle.meta_query.specs.declared.shape.Shape.TheVariants.{Bare, Copying, Comparing, Widening}
use Rattle.meta_query.specs.Shapes.{inputs_for, outputs_for, format_of, all_formats}

nothing : {X : Type 0} (x : X) → None ≡ Some x → ⊥
nothing x e = cc

-- whether it gives something
abbrev pub gives : Shape → Bool
gives Bare = false
gives Copying = true
gives Comparing = true
gives Widening = true

-- the value operands of an instruction of the shape with the root variable x
abbrev pub model : Shape → ℕ → Instruction
model shape x = record {
  results = map (λ (p : List ℕ × Variable). p.1) (outputs_for shape x);
  values = map (λ (p : List ℕ × Variable). p.1) (inputs_for shape x);
  designated = designated_in (slice_get all_formats (format_of shape));
  begins_with_value = gives shape;
  second = None;
}

-- a variable of x: itself, or what is one step from it
pub record IsOfRoot (x : ℕ) (w : Variable) : Type 0 where
  pub root : w.root ≡ x
  pub chain : (w.chain ≡ []) ⊎ ((f : Function) × (w.chain ≡ f ∷ []))

itself : (x : ℕ) → IsOfRoot x (underived x)
itself x = record { root = refl; chain = inl refl }

one_step : (x : ℕ) (f : Function) → IsOfRoot x (longer (underived x) f)
one_step x f = record { root = refl; chain = inr (f, refl) }

same_of : {x : ℕ} {v w : Variable} → IsOfRoot x v → Some v ≡ Some w → IsOfRoot x w
same_of {x} {v} {w} h e = subst (IsOfRoot x) (same_Some v w e) h

-- each operand is such a variable
pub of_root : (shape : Shape) (x k : ℕ) (w : Variable) → IsOperand (model shape x) k w → IsOfRoot x w
of_root Bare x k w at = absurd (cc)
of_root Copying x zero w at = same_of (itself x) at
of_root Copying x (suc zero) w at = same_of (itself x) at
of_root Copying x (suc (suc k)) w at = absurd (cc)
of_root Comparing x zero w at = same_of (one_step x AsTruthy) at
of_root Comparing x (suc zero) w at = same_of (itself x) at
of_root Comparing x (suc (suc zero)) w at = same_of (itself x) at
of_root Comparing x (suc (suc (suc k))) w at = absurd (cc)
of_root Widening x zero w at = same_of (itself x) at
of_root Widening x (suc zero) w at = same_of (one_step x Narrower) at
of_root Widening x (suc (suc k)) w at = absurd (cc)

no_operand : (x k : ℕ) (w : Variable) → IsOperand (model Bare x) k w → ⊥
no_operand x k w at = absurd (cc)

module _ (sets : Sets) (x : ℕ) (several : HasOne (sets x) → ⊥) where
  -- the root may control
  may_control : (shape : Shape) → MayControl sets (model shape x) (underived x)
  may_control shape = record {
    underived = refl;
    not_second = λ e. absurd (cc);
    others = λ k w at. inl (of_root shape x k w at).root;
  }

  -- something does, where the instruction is polymorphic
  pub has_control : (shape : Shape) → HasNoControl sets (model shape x) → ⊥
  has_control Bare h = no_operand x h.polymorphic.place h.polymorphic.variable h.polymorphic.operand
  has_control Copying h = h.designated (underived x) (record { place = 0; designates = refl; is_value = refl }) (may_control Copying)
  has_control Comparing h = h.designated (underived x) (record { place = 0; designates = refl; is_value = refl }) (may_control Comparing)
  has_control Widening h = h.first (underived x) (record { is_value = refl; first = refl }) (may_control Widening)

  -- what controls is an operand
  controlling : (shape : Shape) (v : Variable) → IsControlledBy sets (model shape x) v → (k : ℕ) × IsOperand (model shape x) k v
  controlling shape v h = ⊎_elim
      (λ d. (length (model shape x).results + d.place, get_right (model shape x).results (model shape x).values d.place ∙ d.is_value))
      (λ f. (0, get_stays (model shape x).results (model shape x).values 0 v f.1.first))
      h.chosen

  -- the control is the root
  pub control_is : (shape : Shape) (v : Variable) → IsControl sets (model shape x) (Some v) → v ≡ underived x
  control_is shape v h =
      let at = controlling shape v h in
      let of = of_root shape x at.0 v at.1 in
      λ i. record { root = of.root i; chain = h.may.underived i }

  -- nothing is the control where there is no operand
  pub no_control : (shape : Shape) → IsControl sets (model shape x) None → (k : ℕ) (w : Variable) → IsOperand (model shape x) k w → ⊥
  no_control shape h k w at = several (subst (λ r. HasOne (sets r)) (of_root shape x k w at).root (h k w at))

  -- each operand that is derived is one step from the control
  pub derives_well : (shape : Shape) (place : ℕ) → DerivesBadly sets (model shape x) place → ⊥
  derives_well shape place h = told h.control h.is_control h.first.bad
    where
      told : (control : Option Variable) → IsControl sets (model shape x) control → HasBadDerivation sets (model shape x) control place → ⊥
      told None is bad = no_control shape is place bad.variable bad.operand
      told (Some v) is bad =
          let of = of_root shape x place bad.variable bad.operand in
          ⊎_elim bad.bad.derived
          (λ s. bad.bad.no_step First (underived x) s.0 (ap Some (control_is shape v is)) (record { root = of.root; chain = s.1 }))
          of.chain

  -- a set of the control, or of an operand, is that of the root
  pub control_set : (shape : Shape) (control : Option Variable) (a : Which) (s : TypeSetParts)
      → IsControl sets (model shape x) control → IsControlSet sets (controls_of (model shape x) control) a s → s ≡ sets x
  control_set shape None First s is h = absurd (nothing h.variable h.controls_is)
  control_set shape (Some v) First s is h =
      h.set ∙ ap (λ (w : Variable). sets w.root) (sym (same_Some v h.variable h.controls_is) ∙ control_is shape v is)
  control_set shape control Second s is h = absurd (nothing h.variable h.controls_is)

  pub free_set : (shape : Shape) (control : Option Variable) (s : TypeSetParts) → IsFreeSet sets (model shape x) control s → s ≡ sets x
  free_set shape control s h = h.set ∙ ap sets (of_root shape x h.place h.variable h.operand).root

-- no second control is named
pub no_second : (sets : Sets) (shape : Shape) (x : ℕ) → HasBadSecond sets (model shape x) → ⊥
no_second sets shape x h = nothing h.0 h.1
