-- Well-formed tables of opcodes: what each call of the tables may rely on, and what tables that are made from parts have to meet.
--     AreWellFormedParts names ..    the parts are well-formed, one condition a field
--     IsWellFormedOpcodes t      the tables are well-formed
--     HaveParts t names ..       the tables are made of these parts, by opcode, and of some slots
use Rattle.std.specs.Prelude.{◌≡◌, ◌≢◌, ◌⊎◌, ◌<◌, ◌≤◌, ◌+◌, ℕ, List, All, length, map}
use Rattle.meta_types.specs.Name.{IsName}
use Rattle.meta_types.specs.SharedNames.{AreDistinct}
use Rattle.meta_types.specs.TypeNumber.{IsTypeNumber}
use Rattle.meta_typevar.specs.MaskSets.{AreMasks}
use Rattle.meta_typevar.specs.declared.masks.Masks.{Masks}
use Rattle.meta_inst.specs.Tables.{NumberConstraint, ConcreteNumber, FreeOf, SameNumber, ByNumber, OpcodeNumbers, TableContents}
use Rattle.meta_inst.specs.Tables.{no_type_set, result_count, value_count, SaysDesignated, SaysDiffers}
use Rattle.meta_unique.specs.NameSlots.{AreNameSlots}
use Rattle.meta_gen.specs.Constraint.{number_constraint_of, entry_of}
use Rattle.meta_gen.specs.declared.constraint.Constraint.{Constraint}
use Rattle.meta_gen.specs.declared.constraint.OpcodeConstraints.{OpcodeConstraints}

-- an operand constraint that names a type or a type set names one that exists, if there are `sets` type sets
abbrev pub IsWellFormedConstraint : ℕ → NumberConstraint → Type 0
IsWellFormedConstraint sets (ConcreteNumber n) = IsTypeNumber n
IsWellFormedConstraint sets (FreeOf j) = j < sets
IsWellFormedConstraint sets (SameNumber a) = Unit {0}
IsWellFormedConstraint sets (ByNumber a f) = Unit {0}

-- the offset of a control is the place of one of `sets` type sets, or says that there is no such control
abbrev pub IsSetOffset : ℕ → ℕ → Type 0
IsSetOffset sets offset = (offset < sets) ⊎ (offset ≡ no_type_set)

-- the conditions on an opcode's four numbers, under these counts of type sets and of operand constraints
pub record IsWellFormedEntry (sets constraints : ℕ) (e : OpcodeNumbers) : Type 0 where
  -- the flags are eight bits
  pub eight_bits : e.flags < 256
  -- each control that there is has a type set
  pub type_set : IsSetOffset sets e.typeset_offset
  pub second_set : IsSetOffset sets e.second_offset
  -- there is a second control only beside a control
  pub second_beside : e.typeset_offset ≡ no_type_set → e.second_offset ≡ no_type_set
  -- the designated operand's variable controls only where there is a control
  pub designated : SaysDesignated e.flags → e.typeset_offset ≢ no_type_set
  -- that the first result's variable doesn't control too is said only where the designated operand's does
  pub differs : SaysDiffers e.flags → SaysDesignated e.flags
  -- the constraints of the results and of the values stand in the one list
  pub within : e.constraint_offset + (result_count e.flags + value_count e.flags) ≤ constraints

-- what the parts of tables have to meet: the names of the opcodes and of their formats, the type sets, the one list of operand
-- constraints, and the entries, by opcode
pub record AreWellFormedParts (opcode_names format_names : List (List ℕ)) (type_sets : List Masks)
    (operand_constraints : List NumberConstraint) (opcodes : List OpcodeNumbers) : Type 0 where
  -- there are few enough opcodes, type sets and operand constraints
  pub few_opcodes : length opcodes ≤ 4095
  pub few_type_sets : length type_sets ≤ 4095
  pub few_constraints : length operand_constraints ≤ 65535
  -- each opcode has a name, and its format's
  pub named : length opcode_names ≡ length opcodes
  pub formatted : length format_names ≡ length opcodes
  -- both are names that may be declared
  pub names : All IsName opcode_names
  pub formats : All IsName format_names
  -- no two opcodes share a name: neither are their names the same, nor the camel cases of these
  pub distinct : AreDistinct opcode_names
  -- masks hold widths and lane counts of types alone
  pub masks : All AreMasks type_sets
  -- operand constraints name types and type sets that there are
  pub constraints : All (IsWellFormedConstraint (length type_sets)) operand_constraints
  -- entries name type sets and operand constraints that there are, and their flags fit what they say
  pub entries : All (IsWellFormedEntry (length type_sets) (length operand_constraints)) opcodes

-- the tables have well-formed parts, and each opcode stands in the slots where the hash of its name and the opcodes before it put it
pub record IsWellFormedOpcodes (t : TableContents) : Type 0 where
  pub parts : AreWellFormedParts t.names t.formats t.type_sets t.operand_constraints t.entries
  pub slots : AreNameSlots 1 t.names t.opcode_slots

-- the tables have these names of opcodes and of their formats, type sets, operand constraints and entries
pub record HaveParts (t : TableContents) (opcode_names format_names : List (List ℕ)) (sets : List Masks)
    (constraints : List Constraint) (opcodes : List OpcodeConstraints) : Type 0 where
  pub names : t.names ≡ opcode_names
  pub formats : t.formats ≡ format_names
  pub type_sets : t.type_sets ≡ sets
  pub operand_constraints : t.operand_constraints ≡ map number_constraint_of constraints
  pub entries : t.entries ≡ map entry_of opcodes
