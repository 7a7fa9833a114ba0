-- What tables infer of controlling numbers, and what that says of the declarations that the tables are of.
--     InfersControl tables op n               the designated operand's type, of number n, can be the controlling type
--     InfersOpcode d op c e numbers           the declared instruction infers these numbers for its results
--     HasDesignatedControl d op               the designated operand's variable controls the declared instruction
--     HasControlType d op c vs                what is designated of these values has the controlling type
use Rattle.std.specs.Prelude.{◌≡◌, ◌+◌, ℕ, List, slice_get, Option, Some}
use Rattle.meta_typevar.specs.Variable.{Variable}
use Rattle.meta_inst.specs.Builder.{Builder}
use Rattle.meta_inst.specs.Control.{IsControl}
use Rattle.meta_inst.specs.InstructionSet.{InstructionSet, root_sets, instruction_in_set}
use Rattle.meta_inst.specs.Faults.{IsAt}
use Rattle.meta_inst.specs.Inference.{InfersNumbers}
use Rattle.meta_inst.specs.Tables.{TableContents, OpcodeNumbers, SetContains, SaysDesignated, DesignatedControls, at_opcode}

-- the flags say that the designated operand's variable controls, and the control's type set contains the number n
pub record InfersControl (tables : TableContents) (op n : ℕ) : Type 0 where
  pub entry : OpcodeNumbers
  pub is_opcode : at_opcode tables.entries op ≡ Some entry
  pub designated : SaysDesignated entry.flags
  pub contains : SetContains tables entry.typeset_offset n

-- op is the number of a declared instruction, and of the controlling types with the numbers c and e it infers these numbers of its
-- results
pub record InfersOpcode (d : InstructionSet) (op : ℕ) (c e : Option ℕ) (numbers : List ℕ) : Type 0 where
  pub place : ℕ
  pub builder : Builder
  pub at : IsAt d place builder
  pub number : op ≡ place + 1
  pub control : Option Variable
  pub is_control : IsControl (root_sets d) (instruction_in_set d builder) control
  pub infers : InfersNumbers (root_sets d) (instruction_in_set d builder) control c e numbers

-- op is the number of a declared instruction of which the designated operand's variable controls
pub record HasDesignatedControl (d : InstructionSet) (op : ℕ) : Type 0 where
  pub place : ℕ
  pub builder : Builder
  pub at : IsAt d place builder
  pub number : op ≡ place + 1
  pub control : Option Variable
  pub is_control : IsControl (root_sets d) (instruction_in_set d builder) control
  pub controls : DesignatedControls (instruction_in_set d builder) control

-- op is the number of a declared instruction that designates a value, and of these values that one has the number of the
-- controlling type
pub record HasControlType (d : InstructionSet) (op : ℕ) (c : Option ℕ) (vs : List ℕ) : Type 0 where
  pub place : ℕ
  pub builder : Builder
  pub at : IsAt d place builder
  pub number : op ≡ place + 1
  pub position : ℕ
  pub designated : (instruction_in_set d builder).designated ≡ Some position
  pub type_number : ℕ
  pub controls : c ≡ Some type_number
  pub stands : slice_get vs position ≡ Some type_number
