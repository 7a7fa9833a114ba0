-- The lists of which the tables of an instruction set are made, but for the slots.
use Rattle.std.specs.Prelude.{◌≡◌, ℕ, List, map}
use Rattle.meta_typevar.specs.declared.masks.Masks.{Masks}
use Rattle.meta_inst.specs.Tables.{TableContents}
use Rattle.meta_gen.specs.declared.constraint.Constraint.{Constraint}
use Rattle.meta_gen.specs.declared.constraint.OpcodeConstraints.{OpcodeConstraints}
use Rattle.meta_gen.specs.Constraint.{number_constraint_of, entry_of}

-- the tables have these lists
pub record HaveOpcodeLists (t : TableContents) (opcode_names format_names : List (List ℕ)) (sets : List Masks)
    (constraints : List Constraint) (opcodes : List OpcodeConstraints) : Type 0 where
  pub names : opcode_names ≡ t.names
  pub formats : format_names ≡ t.formats
  pub type_sets : sets ≡ t.type_sets
  pub operand_constraints : map number_constraint_of constraints ≡ t.operand_constraints
  pub entries : map entry_of opcodes ≡ t.entries
