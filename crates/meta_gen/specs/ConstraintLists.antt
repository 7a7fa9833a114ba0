-- The one list of operand constraints: the lists of the opcodes, which overlap.
--     IsConstraintList sets control tables i list      the list has the constraints of the operands of i, in order
--     overlapped lists                                 the one list after these lists are added
--     AreOverlapped d tables                           the tables' list is made so, and the offsets say where each list stands
use Rattle.std.specs.Prelude.{◌≡◌, ◌+◌, ℕ, Bool, List, [], ◌∷◌, length, map, fold, take, slice_get, Option, Some}
use Rattle.meta_typevar.specs.Variable.{Variable, Sets}
use Rattle.meta_inst.specs.Builder.{Builder}
use Rattle.meta_inst.specs.Which.{Which}
use Rattle.meta_inst.specs.Instruction.{Instruction, IsOperand, controls_of}
use Rattle.meta_inst.specs.Control.{IsControl}
use Rattle.meta_inst.specs.InstructionSet.{InstructionSet, root_sets, instruction_in_set}
use Rattle.meta_inst.specs.Faults.{IsAt}
use Rattle.meta_inst.specs.Constraint.{IsConstraint, TypeConstraint}
use Rattle.meta_inst.specs.Tables.{TableContents, OpcodeNumbers, StandsFor}
use Rattle.meta_unique.specs.Overlap.{added, added_at}
use Rattle.meta_gen.specs.Constraint.{number_constraint_of}
use Rattle.meta_gen.specs.contracts.constraint.ConstraintPartialEq.TheImpl.{eq-value}
use Rattle.meta_gen.specs.declared.constraint.Constraint.{Constraint}
use Rattle.meta_gen.specs.declared.constraint.Constraint.TheVariants.{Same}

-- whether two constraints compare equal
abbrev pub same_constraint : Constraint → Constraint → Bool
same_constraint x y = eq-value.it x y

-- at this place of the list stands, in these tables, the constraint of the operand w
pub record IsConstraintAt (sets : Sets) (controls : Which → Option Variable) (tables : TableContents)
    (list : List Constraint) (k : ℕ) (w : Variable) : Type 0 where
  pub type_constraint : TypeConstraint
  pub is_constraint : IsConstraint sets controls w type_constraint
  pub constraint : Constraint
  pub stands : StandsFor tables type_constraint (number_constraint_of constraint)
  pub placed : slice_get list k ≡ Some constraint

-- the list has the constraints of the operands, those of the results and then those of the values, and no more
pub record IsConstraintList (sets : Sets) (control : Option Variable) (tables : TableContents) (i : Instruction)
    (list : List Constraint) : Type 0 where
  pub count : length list ≡ length i.results + length i.values
  pub each : (k : ℕ) (w : Variable) → IsOperand i k w → IsConstraintAt sets (controls_of i control) tables list k w

-- what the one list begins with
abbrev pub three_same : List Constraint
three_same = Same ∷ Same ∷ Same ∷ []

-- the one list after these lists are added one after another, each as `added` of `meta_unique` does it
abbrev pub overlapped : List (List Constraint) → List Constraint
overlapped lists = fold (added same_constraint) three_same lists

-- the list at this place is that of the instruction b, under its control
pub record IsListAt (d : InstructionSet) (tables : TableContents) (lists : List (List Constraint)) (k : ℕ) (b : Builder) : Type 0 where
  pub control : Option Variable
  pub is_control : IsControl (root_sets d) (instruction_in_set d b) control
  pub list : List Constraint
  pub at : slice_get lists k ≡ Some list
  pub is_list : IsConstraintList (root_sets d) control tables (instruction_in_set d b) list

-- each instruction has its list; the tables' list is that after all of them are added; and the offset of each entry says where
-- its list then stood: at 0 where it is empty
pub record AreOverlapped (d : InstructionSet) (tables : TableContents) : Type 0 where
  pub lists : List (List Constraint)
  pub count : length lists ≡ length d.instructions
  pub are : (k : ℕ) (b : Builder) → IsAt d k b → IsListAt d tables lists k b
  pub whole : tables.operand_constraints ≡ map number_constraint_of (overlapped lists)
  pub offsets : (k : ℕ) (list : List Constraint) (entry : OpcodeNumbers) → slice_get lists k ≡ Some list
      → slice_get tables.entries k ≡ Some entry → entry.constraint_offset ≡ added_at same_constraint (overlapped (take k lists)) list
