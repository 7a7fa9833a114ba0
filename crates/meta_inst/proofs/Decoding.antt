-- The tables of one instruction mean the instruction.
use Rattle.std.proofs.Common.{◌≡◌, ◌↔◌, ℕ, ◌+◌, List, Option, Some, sym, ◌∙◌, subst}
use Rattle.std.proofs.lemmas.Option.{same_Some}
use Rattle.meta_types.specs.TypeParts.{TypeParts, number_of, IsType}
use Rattle.meta_typevar.specs.TypeSetParts.{IsTypeSet}
use Rattle.meta_typevar.specs.Variable.{Variable, Sets}
use Rattle.meta_inst.specs.Which.{Which, First, Second, both}
use Rattle.meta_inst.specs.Instruction.{Instruction, IsOperand, controls_of}
use Rattle.meta_inst.specs.Control.{IsControl, HasBadSecond}
use Rattle.meta_inst.specs.Acceptance.{AcceptsNumbers, IsNumberOf}
use Rattle.meta_inst.specs.Constraint.{TypeConstraint, IsConstraint, Passes, PassesOwn, ControlFits}
use Rattle.meta_inst.specs.Tables.{TableContents, OpcodeNumbers, NumberPasses, PassesAt, ControlNumberFits, Allows, AreOpcodeNumbersOf}
use Rattle.meta_inst.specs.Tables.{at_opcode}
use Rattle.meta_inst.proofs.Family.{IsUsed}
use Rattle.meta_inst.proofs.ControlFamily.{ruling_of}
use Rattle.meta_inst.proofs.Only.{only_constraint}
use Rattle.meta_types.specs.TypeNumber.{IsTypeNumber}
use Rattle.meta_inst.proofs.Passing.{IsSound, constraint_sound, passing_typed, type_passes, number_passes, controlling_type}
use Rattle.meta_inst.proofs.Passing.{control_number_fits}
use Rattle.meta_inst.proofs.Allowing.{TellsOperands, allows_exactly}

module _ (sets : Sets) (i : Instruction) (control : Option Variable) (tables : TableContents) (entry : OpcodeNumbers)
    (typed : (k : ℕ) (w : Variable) → IsOperand i k w → IsTypeSet (sets w.root)) (h : IsControl sets i control)
    (good : HasBadSecond sets i → ⊥) (is : AreOpcodeNumbersOf sets i control tables entry) where
  -- the root of a control has a set of types
  control_typed : (a : Which) (v : Variable) → controls_of i control a ≡ Some v → IsTypeSet (sets v.root)
  control_typed a v e =
      let used : IsUsed i v = (ruling_of sets i control h good).used a v e in
      subst (λ r. IsTypeSet (sets r)) used.root (typed used.place used.variable used.operand)

  -- the constraint of an operand names a type or a set of types
  sound_at : (k : ℕ) (w : Variable) (at : IsOperand i k w) → IsSound (is.constraints k w at).constraint
  sound_at k w at = let x = is.constraints k w at
      in constraint_sound sets (controls_of i control) w x.constraint (typed k w at) x.is_constraint

  -- each operand has a constraint
  constrained : (k : ℕ) (w : Variable) → IsOperand i k w → (x : TypeConstraint) × IsConstraint sets (controls_of i control) w x
  constrained k w at = ((is.constraints k w at).constraint, (is.constraints k w at).is_constraint)

  module _ (c d : Option ℕ) where
    -- a number that passes at an operand's place passes what stands for the operand's constraint
    passes_there : (k n : ℕ) (w : Variable) (at : IsOperand i k w) → PassesAt tables (both c d) (entry.constraint_offset + k) n
        → NumberPasses tables (both c d) (is.constraints k w at).number_constraint n
    passes_there k n w at p =
        let x = is.constraints k w at in
        subst (λ y. NumberPasses tables (both c d) y n) (same_Some p.constraint x.number_constraint (sym p.is_constraint
        ∙ x.placed)) p.passes

    -- the types of both controls have these numbers
    numbered_both : (e g : Option TypeParts) → IsNumberOf e c → IsNumberOf g d → (a : Which) → IsNumberOf (both e g a) (both c d a)
    numbered_both e g p q First = p
    numbered_both e g p q Second = q

    control_from : ControlNumberFits tables entry.typeset_offset c → (e : Option TypeParts) × IsNumberOf e c × ControlFits sets control e
    control_from fits = controlling_type sets control tables entry.typeset_offset c (control_typed First) is.type_set fits

    second_from : ControlNumberFits tables entry.second_offset d → (g : Option TypeParts) × IsNumberOf g d × ControlFits sets i.second g
    second_from fits = controlling_type sets i.second tables entry.second_offset d (control_typed Second) is.second_set fits

    -- what passes at an operand's place is the number of a type
    typed_at : ControlNumberFits tables entry.typeset_offset c → ControlNumberFits tables entry.second_offset d → (k n : ℕ) (w : Variable)
        → IsOperand i k w → PassesAt tables (both c d) (entry.constraint_offset + k) n → IsTypeNumber n
    typed_at first second k n w at p =
        let (e, e_number, e_fits) = control_from first in
        let (g, g_number, g_fits) = second_from second in
        let x = is.constraints k w at in
        passing_typed tables (both e g) (both c d) (numbered_both e g e_number g_number) x.constraint x.number_constraint n
        (sound_at k w at) x.stands (passes_there k n w at p)

    -- the number of a type passes there exactly where the type passes the operand's constraint
    passes_own : (k : ℕ) (w : Variable) (e g : Option TypeParts) (t : TypeParts) → IsOperand i k w → IsNumberOf e c → IsNumberOf g d
        → IsType t
        → (PassesAt tables (both c d) (entry.constraint_offset + k) (number_of t) ↔ PassesOwn sets (controls_of i control) (both e g) w t)
    passes_own k w e g t at e_number g_number is_type =
        let x = is.constraints k w at in
        let numbered = numbered_both e g e_number g_number in (
          λ p. (
            x.constraint,
            x.is_constraint,
            type_passes tables (both e g) (both c d) numbered x.constraint x.number_constraint t
                (sound_at k w at) is_type x.stands (passes_there k (number_of t) w at p),
          ),
          λ (y, is_y, p). record {
            constraint = x.number_constraint;
            is_constraint = x.placed;
            passes = number_passes tables (both e g) (both c d) numbered x.constraint x.number_constraint t (sound_at k w at) x.stands
                (subst (λ z. Passes (both e g) z t) (only_constraint sets i control h good w y x.constraint is_y x.is_constraint) p);
          },
        )

    tells : TellsOperands sets i control tables entry c d
    tells = record {
      results = is.flags.results;
      values = is.flags.values;
      control_from = control_from;
      control_to = λ e numbered fits. control_number_fits sets control tables entry.typeset_offset e c
          (control_typed First) is.type_set numbered fits;
      second_from = second_from;
      second_to = λ g numbered fits. control_number_fits sets i.second tables entry.second_offset g d
          (control_typed Second) is.second_set numbered fits;
      typed = typed_at;
      passes = λ k w e g t at e_number g_number e_fits g_fits is_type. passes_own k w e g t at e_number g_number is_type;
    }

-- The tables mean the instruction.
pub tables_mean : (sets : Sets) (i : Instruction) (control : Option Variable) (tables : TableContents) (op : ℕ) (entry : OpcodeNumbers)
    (c d : Option ℕ) (rs vs : List ℕ) → ((k : ℕ) (w : Variable) → IsOperand i k w → IsTypeSet (sets w.root)) → IsControl sets i control
    → (HasBadSecond sets i → ⊥)
    → AreOpcodeNumbersOf sets i control tables entry → at_opcode tables.entries op ≡ Some entry
    → (Allows tables op c d rs vs ↔ AcceptsNumbers sets i control c d rs vs)
tables_mean sets i control tables op entry c d rs vs typed h good is at =
    allows_exactly sets i control tables entry h good (constrained sets i control tables entry typed h good is) c d
    (tells sets i control tables entry typed h good is c d) op at rs vs
