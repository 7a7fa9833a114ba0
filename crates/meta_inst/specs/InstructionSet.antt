-- Declarations: the variables, the formats and the instructions of an instruction set.
use Rattle.std.specs.Prelude.{◌≡◌, ◌<◌, ℕ, Bool, false, List, [], ◌∷◌, length, slice_get, Option, None, Some, is_some}
use Rattle.meta_typevar.specs.Variable.{Sets}
use Rattle.meta_typevar.specs.Registry.{sets_of}
use Rattle.meta_typevar.specs.declared.content.TypeVarContent.{TypeVarContent}
use Rattle.meta_operands.specs.Operand.{variable_of, variables_of}
use Rattle.meta_operands.specs.declared.operand.Operand.{Operand}
use Rattle.meta_operands.specs.declared.format.InstructionFormat.{InstructionFormat}
use Rattle.meta_inst.specs.Builder.{Builder, inputs_of, outputs_of}
use Rattle.meta_inst.specs.Instruction.{Instruction}
use Rattle.meta_inst.specs.Operands.{variables_at, second_in, AreOf, SecondIsOf}

-- what is declared: type variables and formats by their numbers, and instructions in order
pub record InstructionSet : Type 0 where
  pub vars : List TypeVarContent
  pub formats : List InstructionFormat
  pub instructions : List Builder

-- the set of each root
abbrev pub root_sets : InstructionSet → Sets
root_sets d = sets_of d.vars

-- the place that the format of an instruction designates
abbrev pub designated_in : Option InstructionFormat → Option ℕ
designated_in None = None
designated_in (Some format) = format.typevar_operand

-- whether there is an operand and the first is a value
abbrev pub begins_with_value : List Operand → Bool
begins_with_value [] = false
begins_with_value (first ∷ others) = is_some (variable_of first)

-- the value operands of a declared instruction
abbrev pub instruction_of_builder : List TypeVarContent → List InstructionFormat → Builder → Instruction
instruction_of_builder vars formats b = record {
  results = variables_at vars (variables_of (outputs_of b));
  values = variables_at vars (variables_of (inputs_of b));
  designated = designated_in (slice_get formats b.format);
  begins_with_value = begins_with_value (outputs_of b);
  second = second_in vars b.second;
}

-- the same of an instruction of these declarations
abbrev pub instruction_in_set : InstructionSet → Builder → Instruction
instruction_in_set d b = instruction_of_builder d.vars d.formats b

-- the instruction is of these registries: its format is of the table, and the variable of each value operand and its second
-- control of the variables
pub record FitsBuilder (vars : List TypeVarContent) (formats : List InstructionFormat) (b : Builder) : Type 0 where
  pub format : b.format < length formats
  pub outputs : AreOf vars (variables_of (outputs_of b))
  pub inputs : AreOf vars (variables_of (inputs_of b))
  pub second : SecondIsOf vars b.second

-- each instruction is of the registries
abbrev pub AreOfRegistries : List TypeVarContent → List InstructionFormat → List Builder → Type 0
AreOfRegistries vars formats instructions = (k : ℕ) (b : Builder) → slice_get instructions k ≡ Some b → FitsBuilder vars formats b
