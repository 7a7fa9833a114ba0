-- Instructions as they are built.
--     operand_list formats b                         the value operands of the declared instruction b
--     content_of formats b info                      what is built of it
--     IsPolymorphicInfoOf vars formats b info        info is what is kept of its control
use Rattle.std.specs.Prelude.{◌≡◌, ◌↔◌, ◌<◌, ℕ, Bool, List, [], ◌∷◌, ◌++◌, length, slice_get, Option, None, Some, option_map, codes}
use Rattle.std.specs.Prelude.{flat_map, if◌then◌else◌, IsTrue}
use Rattle.std.specs.List.{filter_map, enumerate_from}
use Rattle.meta_types.specs.CamelCase.{camel_case_of}
use Rattle.meta_typevar.specs.Variable.{Variable}
use Rattle.meta_typevar.specs.Registry.{sets_of, variable_at}
use Rattle.meta_typevar.specs.declared.content.TypeVarContent.{TypeVarContent}
use Rattle.meta_operands.specs.Texts.{same_text}
use Rattle.meta_operands.specs.Operand.{is_immediate_or_entityref_operand, variables_of}
use Rattle.meta_operands.specs.declared.operand.Operand.{Operand}
use Rattle.meta_operands.specs.declared.format.InstructionFormat.{InstructionFormat}
use Rattle.meta_inst.specs.declared.polymorphic.PolymorphicInfo.{PolymorphicInfo}
use Rattle.meta_inst.specs.Which.{Which, both}
use Rattle.meta_inst.specs.Builder.{Builder, inputs_of, outputs_of}
use Rattle.meta_inst.specs.Built.{BuiltInstruction}
use Rattle.meta_inst.specs.FormatMatch.{is_value_operand}
use Rattle.meta_inst.specs.Instruction.{IsDesignated}
use Rattle.meta_inst.specs.Control.{IsControl}
use Rattle.meta_inst.specs.Operands.{OperandList}
use Rattle.meta_inst.specs.InstructionSet.{instruction_of_builder, designated_in, begins_with_value}

-- the place, where the operand that stands there passes the test
abbrev pub place_where : (Operand → Bool) → ℕ × Operand → Option ℕ
place_where test at = if test at.1 then Some at.0 else None

-- the places, from 0, of the operands that pass the test, in order
abbrev pub places_where : (Operand → Bool) → List Operand → List ℕ
places_where test operands = filter_map (place_where test) (enumerate_from 0 operands)

-- the control that is kept, as a variable
abbrev pub control_kept : List TypeVarContent → Option PolymorphicInfo → Option Variable
control_kept vars info = option_map (λ (p : PolymorphicInfo). variable_at vars p.ctrl_typevar) info

-- the number of its variable
abbrev pub ctrl_number : Option PolymorphicInfo → Option ℕ
ctrl_number info = option_map (λ (p : PolymorphicInfo). p.ctrl_typevar) info

-- the numbers of the controls of what is built
abbrev pub control_numbers : BuiltInstruction → Which → Option ℕ
control_numbers c = both (ctrl_number c.polymorphic_info) c.value_operands.second

-- what is kept of an instruction's control: it is that of the declaration, or none where the instruction isn't polymorphic;
-- its variable is of the registry; the second control is that which was named; and the mark says whether it is the designated operand's
-- variable
pub record IsPolymorphicInfoOf (vars : List TypeVarContent) (formats : List InstructionFormat) (b : Builder)
    (info : Option PolymorphicInfo) : Type 0 where
  pub control : IsControl (sets_of vars) (instruction_of_builder vars formats b) (control_kept vars info)
  pub of_registry : (p : PolymorphicInfo) → info ≡ Some p → p.ctrl_typevar < length vars
  pub second : (p : PolymorphicInfo) → info ≡ Some p → p.second_typevar ≡ b.second
  pub designated : (p : PolymorphicInfo) → info ≡ Some p
      → (IsTrue p.use_typevar_operand ↔ IsDesignated (instruction_of_builder vars formats b) (variable_at vars p.ctrl_typevar))

-- the value operands of a declared instruction: the variables of its results and then of its values, how many are results, the
-- place that its format designates, and whether its first output is a value
abbrev pub operand_list : List InstructionFormat → Builder → OperandList
operand_list formats b = record {
  variables = variables_of (outputs_of b) ++ variables_of (inputs_of b);
  result_count = length (variables_of (outputs_of b));
  designated = designated_in (slice_get formats b.format);
  begins_with_value = begins_with_value (outputs_of b);
  second = b.second;
}

-- What is built of a declared instruction, with what is kept of its control: its texts, operands, format and marks are those
-- that it was given, and with these stand the name in camel case, the places of the operands, and the value operands.
abbrev pub content_of : List InstructionFormat → Builder → Option PolymorphicInfo → BuiltInstruction
content_of formats b info = record {
  name = b.name;
  camel_name = camel_case_of b.name;
  doc = b.doc;
  operands_in = inputs_of b;
  operands_out = outputs_of b;
  format = b.format;
  polymorphic_info = info;
  value_opnums = places_where is_value_operand (inputs_of b);
  imm_opnums = places_where is_immediate_or_entityref_operand (inputs_of b);
  value_results = places_where is_value_operand (outputs_of b);
  marks = b.marks;
  value_operands = operand_list formats b;
}

-- the name in the code that is written: `return` is a word of the language
abbrev pub snake_name_of : List ℕ → List ℕ
snake_name_of name = if same_text name (codes "return") then codes "return_" else name

-- names of operands after another one, parted by `, `
abbrev pub more_names_text : List Operand → List ℕ
more_names_text operands = flat_map (λ (o : Operand). codes ", " ++ o.name) operands

-- names of operands, parted by `, `
abbrev pub names_text : List Operand → List ℕ
names_text [] = []
names_text (o ∷ others) = o.name ++ more_names_text others

-- the outputs' names before the name
abbrev pub outputs_text : List Operand → List ℕ
outputs_text [] = []
outputs_text (o ∷ others) = names_text (o ∷ others) ++ codes " = "

-- the inputs' names, after the instruction's name
abbrev pub inputs_text : List Operand → List ℕ
inputs_text [] = []
inputs_text (o ∷ others) = codes " " ++ names_text (o ∷ others)

-- an instruction as it is written: `a = iadd x, y`
abbrev pub instruction_text : BuiltInstruction → List ℕ
instruction_text c = outputs_text c.operands_out ++ (c.name ++ inputs_text c.operands_in)
