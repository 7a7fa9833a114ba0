-- What tables say of the declarations that they were made for.
--     AreTablesOf d tables            the tables hold each declared instruction
--     AcceptsOpcode d op c e rs vs    what the declarations accept for an opcode, by numbers
use Rattle.std.specs.Prelude.{◌≡◌, ◌+◌, ℕ, List, length, slice_get, Option, Some}
use Rattle.meta_typevar.specs.Variable.{Variable}
use Rattle.meta_operands.specs.declared.format.InstructionFormat.{InstructionFormat}
use Rattle.meta_inst.specs.Builder.{Builder}
use Rattle.meta_inst.specs.Control.{IsControl, HasBadSecond}
use Rattle.meta_inst.specs.InstructionSet.{InstructionSet, root_sets, instruction_in_set}
use Rattle.meta_inst.specs.Faults.{IsAt, names_of}
use Rattle.meta_inst.specs.Acceptance.{AcceptsNumbers}
use Rattle.meta_inst.specs.Tables.{TableContents, OpcodeNumbers, AreOpcodeNumbersOf}
use Rattle.meta_unique.specs.NameSlots.{AreNameSlots}
use Rattle.meta_build.specs.Needed.{AreNeededMasks}
use Rattle.meta_gen.specs.ConstraintLists.{AreOverlapped}

-- at this place the tables hold the instruction: its entry is that of its declaration, under its control; and the second control
-- that it may name can be one
pub record HoldsInstruction (d : InstructionSet) (tables : TableContents) (k : ℕ) (b : Builder) : Type 0 where
  pub control : Option Variable
  pub is_control : IsControl (root_sets d) (instruction_in_set d b) control
  pub good : HasBadSecond (root_sets d) (instruction_in_set d b) → ⊥
  pub entry : OpcodeNumbers
  pub at : slice_get tables.entries k ≡ Some entry
  pub is_entry : AreOpcodeNumbersOf (root_sets d) (instruction_in_set d b) control tables entry

-- at this place of the list stands the name of the instruction's format
pub record IsFormatName (formats : List InstructionFormat) (b : Builder) (names : List (List ℕ)) (k : ℕ) : Type 0 where
  pub format : InstructionFormat
  pub is_format : slice_get formats b.format ≡ Some format
  pub named : slice_get names k ≡ Some format.name

-- these are the names of the formats of the instructions, in order
pub record AreFormatNames (formats : List InstructionFormat) (instructions : List Builder) (names : List (List ℕ)) : Type 0 where
  pub count : length names ≡ length instructions
  pub each : (k : ℕ) (b : Builder) → slice_get instructions k ≡ Some b → IsFormatName formats b names k

-- the tables are those of the declarations: opcode k + 1 is the instruction at place k, with its name and that of its format,
-- and its entry holds it; the slots are those of the names; the type sets are those that the
-- instructions need, in order of first need; the one list of operand constraints is made of the instructions' lists, which overlap
pub record AreTablesOf (d : InstructionSet) (tables : TableContents) : Type 0 where
  pub names : tables.names ≡ names_of d
  pub formats : AreFormatNames d.formats d.instructions tables.formats
  pub opcode_slots : AreNameSlots 1 tables.names tables.opcode_slots
  pub type_sets : AreNeededMasks d tables.type_sets
  pub operand_constraints : AreOverlapped d tables
  pub count : length tables.entries ≡ length d.instructions
  pub holds : (k : ℕ) (b : Builder) → IsAt d k b → HoldsInstruction d tables k b

-- op is the number of a declared instruction, and the instruction accepts the types that have these numbers: the controlling types
-- c and e, those of the results and those of the values
pub record AcceptsOpcode (d : InstructionSet) (op : ℕ) (c e : Option ℕ) (rs vs : List ℕ) : Type 0 where
  pub place : ℕ
  pub builder : Builder
  pub at : IsAt d place builder
  pub number : op ≡ place + 1
  pub control : Option Variable
  pub is_control : IsControl (root_sets d) (instruction_in_set d builder) control
  pub accepts : AcceptsNumbers (root_sets d) (instruction_in_set d builder) control c e rs vs
