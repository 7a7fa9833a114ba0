-- What can be told from its text, in a text of tables.
--     AreShownMasks m        the masks fit their fields
--     IsShownConstraint c    the constraint is of a type, or of the place of a type set, or of a control
--     IsShownEntry v e       the numbers of an opcode fit their fields, and the version shows them
--     AreShownOpcodes v t    all of this holds in the tables of an instruction set
use Rattle.std.specs.Prelude.{◌≡◌, ℕ, ◌<◌, ◌^◌, ◌⊎◌, ⊤, length, All}
use Rattle.meta_types.specs.Name.{IsName}
use Rattle.meta_types.specs.TypeNumber.{IsTypeNumber}
use Rattle.meta_typevar.specs.declared.masks.Masks.{Masks}
use Rattle.meta_inst.specs.Tables.{NumberConstraint, ConcreteNumber, FreeOf, SameNumber, ByNumber, OpcodeNumbers, TableContents}
use Rattle.meta_inst.specs.Tables.{no_type_set}
use Rattle.meta_table_text.specs.declared.version.Version.{Version}
use Rattle.meta_table_text.specs.declared.version.Version.TheVariants.{One, Two, Three}
use Rattle.meta_table_text.specs.Version.{none_of}

-- the masks fit their fields, of 16 and of 8 bits
pub record AreShownMasks (m : Masks) : Type 0 where
  pub lanes : m.lanes < 2 ^ 16
  pub dynamic_lanes : m.dynamic_lanes < 2 ^ 16
  pub ints : m.ints < 2 ^ 8
  pub floats : m.floats < 2 ^ 8

-- a constraint of a type has the number of one, and that of a type set a place of 16 bits
abbrev pub IsShownConstraint : NumberConstraint → Type 0
IsShownConstraint (ConcreteNumber n) = IsTypeNumber n
IsShownConstraint (FreeOf j) = j < 2 ^ 16
IsShownConstraint (SameNumber which) = ⊤
IsShownConstraint (ByNumber which f) = ⊤

-- the place of a type set is below what the version has for no type set, or there is no type set
abbrev pub IsShownOffset : Version → ℕ → Type 0
IsShownOffset v offset = (offset < none_of v) ⊎ (offset ≡ no_type_set)

-- version 1 can't say that there is a second control, and there is no second control
abbrev pub IsShownSecond : Version → ℕ → Type 0
IsShownSecond One offset = offset ≡ no_type_set
IsShownSecond Two offset = IsShownOffset Two offset
IsShownSecond Three offset = IsShownOffset Three offset

-- the numbers of an opcode fit their fields, and the version shows them
pub record IsShownEntry (v : Version) (e : OpcodeNumbers) : Type 0 where
  pub flags : e.flags < 2 ^ 8
  pub type_set : IsShownOffset v e.typeset_offset
  pub second_set : IsShownSecond v e.second_offset
  pub constraints : e.constraint_offset < 2 ^ 16

-- each opcode has a name, and its format has one; they are counted in 16 bits
pub record AreNamed (t : TableContents) : Type 0 where
  pub few : length t.entries < 2 ^ 16
  pub named : length t.names ≡ length t.entries
  pub formatted : length t.formats ≡ length t.entries
  pub names : All IsName t.names
  pub formats : All IsName t.formats

-- the type sets, the constraints and the slots of the tables of an instruction set can be told, and are counted in 16 bits, or, of
-- the slots, in 64
pub record AreShownLists (t : TableContents) : Type 0 where
  pub few_sets : length t.type_sets < 2 ^ 16
  pub few_constraints : length t.operand_constraints < 2 ^ 16
  pub few_slots : length t.opcode_slots < 2 ^ 64
  pub sets : All AreShownMasks t.type_sets
  pub constraints : All IsShownConstraint t.operand_constraints

-- all of this holds in the tables of an instruction set
pub record AreShownOpcodes (v : Version) (t : TableContents) : Type 0 where
  pub named : AreNamed t
  pub lists : AreShownLists t
  pub entries : All (IsShownEntry v) t.entries
