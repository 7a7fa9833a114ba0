-- What a built instruction says of the value operands and the control of the declared one.
use Rattle.std.proofs.Common.{◌≡◌, ◌<◌, ◌≤◌, ◌+◌, ℕ, List, length, length-append, arith, Option, None, Some, refl, sym, ap, ◌∙◌, subst}
use Rattle.std.specs.Prelude.{option_map}
use Rattle.std.proofs.lemmas.Option.{same_Some}
use Rattle.meta_typevar.specs.Variable.{Variable}
use Rattle.meta_typevar.specs.Registry.{variable_at}
use Rattle.meta_typevar.specs.declared.content.TypeVarContent.{TypeVarContent}
use Rattle.meta_operands.specs.Operand.{variables_of}
use Rattle.meta_inst.specs.Builder.{Builder, inputs_of, outputs_of}
use Rattle.meta_inst.specs.Built.{BuiltInstruction}
use Rattle.meta_inst.specs.Which.{First}
use Rattle.meta_inst.specs.Controls.{AreControlsOf, controls_at}
use Rattle.meta_inst.specs.Content.{operand_list, control_kept, ctrl_number, control_numbers}
use Rattle.meta_inst.specs.Control.{IsControl}
use Rattle.meta_inst.specs.Instruction.{Instruction}
use Rattle.meta_inst.specs.InstructionSet.{InstructionSet, root_sets, instruction_in_set, FitsBuilder}
use Rattle.meta_inst.specs.Operands.{OperandList, AreOf, SecondIsOf, instruction_of_operands}
use Rattle.meta_inst.specs.declared.polymorphic.PolymorphicInfo.{PolymorphicInfo}
use Rattle.meta_inst.proofs.ControlLemmas.{both_are_of}
use Rattle.meta_inst.proofs.Listed.{listed, listed_of}
use Rattle.meta_build.specs.BuiltInstructions.{IsInstructionOf}

-- the control that is kept, by its number
kept_at : (vars : List TypeVarContent) (info : Option PolymorphicInfo)
    → control_kept vars info ≡ option_map (variable_at vars) (ctrl_number info)
kept_at vars None = refl
kept_at vars (Some p) = refl

number_of : (vars : List TypeVarContent) (info : Option PolymorphicInfo)
    → ((p : PolymorphicInfo) → info ≡ Some p → p.ctrl_typevar < length vars) → (v : ℕ) → ctrl_number info ≡ Some v → v < length vars
number_of vars None h v e = absurd (cc)
number_of vars (Some p) h v e = subst (λ n. n < length vars) (same_Some p.ctrl_typevar v e) (h p refl)

module _ (d : InstructionSet) (b : Builder) (c : BuiltInstruction) (is : IsInstructionOf d b c) where
  pub operands_are : c.value_operands ≡ operand_list d.formats b
  operands_are = ap (λ (x : BuiltInstruction). x.value_operands) is.content

  pub meaning : instruction_of_operands d.vars c.value_operands ≡ instruction_in_set d b
  meaning = ap (instruction_of_operands d.vars) operands_are ∙ listed d.vars d.formats b

  pub within_is : c.value_operands.result_count ≤ length c.value_operands.variables
  within_is =
      let count : c.value_operands.result_count ≡ length (variables_of (outputs_of b)) =
      ap (λ (o : OperandList). o.result_count) operands_are in
      let all : length c.value_operands.variables ≡ length (variables_of (outputs_of b)) + length (variables_of (inputs_of b)) =
      ap (λ (o : OperandList). length o.variables) operands_are
      ∙ length-append (variables_of (outputs_of b)) (variables_of (inputs_of b)) in
      omega arith

  pub variables_are : FitsBuilder d.vars d.formats b → AreOf d.vars c.value_operands.variables
  variables_are fits = subst (λ (o : OperandList). AreOf d.vars o.variables) (sym operands_are) (listed_of d.vars d.formats b fits)

  pub built_control_is : IsControl (root_sets d) (instruction_of_operands d.vars c.value_operands)
      (controls_at d.vars (control_numbers c) First)
  built_control_is =
      subst (λ (i : Instruction). IsControl (root_sets d) i (controls_at d.vars (control_numbers c) First)) (sym meaning)
      (subst (λ (v : Option Variable). IsControl (root_sets d) (instruction_in_set d b) v)
      (kept_at d.vars c.polymorphic_info) is.control.control)

  -- the controls are of the registry
  pub controls_are : FitsBuilder d.vars d.formats b → AreControlsOf d.vars (control_numbers c)
  controls_are fits =
      both_are_of d.vars (ctrl_number c.polymorphic_info) c.value_operands.second
      (number_of d.vars c.polymorphic_info is.control.of_registry)
      (subst (λ (o : OperandList). SecondIsOf d.vars o.second) (sym operands_are) fits.second)
