-- The value operands of a declared instruction, as they are listed.
use Rattle.std.proofs.Common.{◌≡◌, ⊎_elim, List, map, ap}
use Rattle.std.proofs.Math.Seq.{take-append_seam, drop-append_seam}
use Rattle.meta_typevar.specs.Registry.{variable_at}
use Rattle.meta_typevar.specs.declared.content.TypeVarContent.{TypeVarContent}
use Rattle.meta_operands.specs.Operand.{variables_of}
use Rattle.meta_operands.specs.declared.format.InstructionFormat.{InstructionFormat}
use Rattle.meta_inst.specs.Builder.{Builder, inputs_of, outputs_of}
use Rattle.meta_inst.specs.Operands.{AreOf, second_in, instruction_of_operands}
use Rattle.meta_inst.specs.InstructionSet.{instruction_of_builder, designated_in, begins_with_value, FitsBuilder}
use Rattle.std.specs.List.{slice_get}
use Rattle.meta_lists.proofs.Places.{get_cases}
use Rattle.meta_inst.specs.Content.{operand_list}

module _ (vars : List TypeVarContent) (formats : List InstructionFormat) (b : Builder) where
  -- they are those of the instruction
  pub listed : instruction_of_operands vars (operand_list formats b) ≡ instruction_of_builder vars formats b
  listed =
      let results = ap (map (variable_at vars)) (take-append_seam (variables_of (outputs_of b)) (variables_of (inputs_of b))) in
      let values = ap (map (variable_at vars)) (drop-append_seam (variables_of (outputs_of b)) (variables_of (inputs_of b))) in
      λ i. record {
        results = results i;
        values = values i;
        designated = designated_in (slice_get formats b.format);
        begins_with_value = begins_with_value (outputs_of b);
        second = second_in vars b.second;
      }

  -- and of the registry, if the instruction is
  pub listed_of : FitsBuilder vars formats b → AreOf vars (operand_list formats b).variables
  listed_of fits k n at = ⊎_elim (λ e. fits.outputs k n e) (λ e. fits.inputs e.0 n e.2)
      (get_cases (variables_of (outputs_of b)) (variables_of (inputs_of b)) k n at)
