-- Tables as the code keeps them, and what stands there for an opcode.
--     contents_of names type_sets operand_constraints constraints     the tables that are kept as these lists
--     AreKept tables                                                  what kept tables meet
--     IsOpcode tables op                                              op is an opcode of the tables
use Rattle.std.specs.Prelude.{◌≡◌, ◌<◌, ◌≤◌, ◌+◌, ℕ, List, length, map, slice_get, Contains, Option, None, Some}
use Rattle.meta_typevar.specs.declared.masks.Masks.{Masks}
use Rattle.meta_inst.specs.Which.{Which}
use Rattle.meta_inst.specs.Tables.{TableContents, at_opcode, PassesAt}
use Rattle.meta_gen.specs.declared.constraint.Constraint.{Constraint}
use Rattle.meta_gen.specs.declared.constraint.OpcodeConstraints.{OpcodeConstraints}
use Rattle.meta_gen.specs.Constraint.{number_constraint_of, entry_of}
use Rattle.meta_gen.specs.WellFormedOpcodes.{IsWellFormedOpcodes}

-- what tables have of names: by opcode the name and the name of the format, and the slots of the names
pub record OpcodeNames : Type 0 where
  pub names : List (List ℕ)
  pub formats : List (List ℕ)
  pub slots : List (Option ℕ)

-- the tables with these names, type sets, operand constraints and entries
abbrev pub contents_of : OpcodeNames → List Masks → List Constraint → List OpcodeConstraints → TableContents
contents_of names type_sets operand_constraints constraints = record {
  names = names.names;
  formats = names.formats;
  opcode_slots = names.slots;
  type_sets = type_sets;
  operand_constraints = map number_constraint_of operand_constraints;
  entries = map entry_of constraints;
}

-- the tables are well-formed, and one of the slots is vacant
pub record AreKept (tables : TableContents) : Type 0 where
  pub well_formed : IsWellFormedOpcodes tables
  pub vacant : Contains tables.opcode_slots None

-- op is one of the opcodes of the tables, which are numbered from 1
abbrev pub IsOpcode : TableContents → ℕ → Type 0
IsOpcode tables op = (0 < op) × (op ≤ length tables.entries)

-- op is an opcode that has this name
abbrev pub IsOpcodeNamed : List (List ℕ) → List ℕ → ℕ → Type 0
IsOpcodeNamed names name op = at_opcode names op ≡ Some name

-- under the controlling numbers c each number passes the constraint that stands at its place after the offset
abbrev pub AllPass : TableContents → (Which → Option ℕ) → ℕ → List ℕ → Type 0
AllPass tables c offset numbers = (k n : ℕ) → slice_get numbers k ≡ Some n → PassesAt tables c (offset + k) n
