-- What is left out of the lines of an instruction: by tables, and by its declaration.
--     manner_of tables e              the manner of an opcode, by its entry
--     IsMannerOf sets i control m     that of an instruction, as it is declared
use Rattle.std.specs.Prelude.{◌≡◌, ◌↔◌, ℕ, ◌+◌, ◌/◌, ◌%◌, ◌==◌, ◌&&◌, Bool, true, false, IsTrue, List, map, take, drop, length, slice_get}
use Rattle.std.specs.Prelude.{Option, Some, None}
use Rattle.std.specs.List.{list_any}
use Rattle.meta_lists.specs.First.{IsFirst}
use Rattle.meta_types.specs.Function.{Function, Narrower, Wider}
use Rattle.meta_typevar.specs.TypeSetParts.{HasOne}
use Rattle.meta_typevar.specs.Variable.{Variable, Sets}
use Rattle.meta_inst.specs.Which.{First, Second}
use Rattle.meta_inst.specs.Instruction.{Instruction}
use Rattle.meta_inst.specs.Builder.{Builder}
use Rattle.meta_inst.specs.Control.{IsControl}
use Rattle.meta_inst.specs.InstructionSet.{InstructionSet, root_sets, instruction_in_set}
use Rattle.meta_inst.specs.Tables.{TableContents, OpcodeNumbers, NumberConstraint, ConcreteNumber, FreeOf, SameNumber, ByNumber}
use Rattle.meta_inst.specs.Tables.{at_opcode, result_count, value_count, no_type_set, DesignatedControls}
use Rattle.meta_inst.specs.Inference.{EndsInRelation}
use Rattle.meta_gen.specs.Contents.{IsOpcodeNamed}
use Rattle.meta_gen.specs.Reply.{IsAskedFor}
use Rattle.meta_asm.specs.Short.{Manner}

-- ---- by tables

-- the function is a relation, which leaves several types
abbrev pub is_relation : Function → Bool
is_relation Narrower = true
is_relation Wider = true
is_relation f = false

-- a result under this constraint is written with its type
abbrev pub is_open : NumberConstraint → Bool
is_open (ConcreteNumber n) = false
is_open (FreeOf j) = true
is_open (SameNumber a) = false
is_open (ByNumber a f) = is_relation f

-- a value under this constraint has the controlling type
abbrev pub is_control : NumberConstraint → Bool
is_control (ConcreteNumber n) = false
is_control (FreeOf j) = false
is_control (SameNumber First) = true
is_control (SameNumber Second) = false
is_control (ByNumber a f) = false

-- the constraints of the results of an opcode, and those of its values
abbrev pub result_constraints : TableContents → OpcodeNumbers → List NumberConstraint
result_constraints tables e = take (result_count e.flags) (drop e.constraint_offset tables.operand_constraints)

abbrev pub value_constraints : TableContents → OpcodeNumbers → List NumberConstraint
value_constraints tables e = take (value_count e.flags) (drop (e.constraint_offset + result_count e.flags) tables.operand_constraints)

-- the control is left out where the flags say that the designated operand's variable controls, there is no second control, and some
-- value has the controlling type; the type of a result is written where the constraint leaves several
abbrev pub manner_of : TableContents → OpcodeNumbers → Manner
manner_of tables e = record {
  leaves_out = (e.flags / 8 % 2 == 1) && ((e.second_offset == no_type_set) && list_any is_control (value_constraints tables e));
  opened = map is_open (result_constraints tables e);
}

-- the manner of the opcode that has the name
pub record IsMannerIn (tables : TableContents) (name : List ℕ) (m : Manner) : Type 0 where
  pub opcode : ℕ
  pub named : IsFirst (IsOpcodeNamed tables.names name) opcode
  pub entry : OpcodeNumbers
  pub is_entry : at_opcode tables.entries opcode ≡ Some entry
  pub is : m ≡ manner_of tables entry

-- ---- by declarations

-- the set of the control has one type
abbrev pub ControlHasOne : Sets → Option Variable → Type 0
ControlHasOne sets control = (v : Variable) × (control ≡ Some v) × HasOne (sets v.root)

-- the control is left out where the designated operand's variable controls, there is no second control, and its set hasn't one type;
-- the type of a result is written where its chain ends in a relation
pub record IsMannerOf (sets : Sets) (i : Instruction) (control : Option Variable) (m : Manner) : Type 0 where
  pub leaves_out : IsTrue m.leaves_out ↔ ((i.second ≡ None) × DesignatedControls i control × (ControlHasOne sets control → ⊥))
  pub count : length m.opened ≡ length i.results
  pub opened : (k : ℕ) (w : Variable) (o : Bool)
      → slice_get i.results k ≡ Some w → slice_get m.opened k ≡ Some o → (IsTrue o ↔ EndsInRelation w)

-- the manner of the instruction that has the name
pub record IsMannerDeclared (d : InstructionSet) (name : List ℕ) (m : Manner) : Type 0 where
  pub builder : Builder
  pub asked : IsAskedFor d name builder
  pub control : Option Variable
  pub is_control : IsControl (root_sets d) (instruction_in_set d builder) control
  pub is : IsMannerOf (root_sets d) (instruction_in_set d builder) control m
