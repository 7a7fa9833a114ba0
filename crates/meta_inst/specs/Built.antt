-- What is kept of an instruction that is built.
use Rattle.std.specs.Prelude.{ℕ, List, Option}
use Rattle.meta_operands.specs.declared.operand.Operand.{Operand}
use Rattle.meta_inst.specs.declared.marks.Marks.{Marks}
use Rattle.meta_inst.specs.Operands.{OperandList}
use Rattle.meta_inst.specs.declared.polymorphic.PolymorphicInfo.{PolymorphicInfo}

-- The name, also in camel case, the doc, the operands, the number of the format, the control, the places among the inputs of
-- values and of immediates and entity references, the places among the outputs of values, the marks, and the value operands.
pub record BuiltInstruction : Type 0 where
  pub name : List ℕ
  pub camel_name : List ℕ
  pub doc : List ℕ
  pub operands_in : List Operand
  pub operands_out : List Operand
  pub format : ℕ
  pub polymorphic_info : Option PolymorphicInfo
  pub value_opnums : List ℕ
  pub imm_opnums : List ℕ
  pub value_results : List ℕ
  pub marks : Marks
  pub value_operands : OperandList
