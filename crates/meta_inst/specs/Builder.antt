-- Instructions as they are declared.
use Rattle.std.specs.Prelude.{ℕ, List, [], Option, unwrap_or}
use Rattle.meta_operands.specs.declared.operand.Operand.{Operand}
use Rattle.meta_inst.specs.declared.marks.Marks.{Marks}

-- an instruction's name and doc, the number of its format, its operands, where they were set, its marks, and the number of the
-- variable that is its second control, where that was named
pub record Builder : Type 0 where
  pub name : List ℕ
  pub doc : List ℕ
  pub format : ℕ
  pub operands_in : Option (List Operand)
  pub operands_out : Option (List Operand)
  pub marks : Marks
  pub second : Option ℕ

-- the inputs and the outputs, none where they weren't set
abbrev pub inputs_of : Builder → List Operand
inputs_of b = unwrap_or b.operands_in []

abbrev pub outputs_of : Builder → List Operand
outputs_of b = unwrap_or b.operands_out []
