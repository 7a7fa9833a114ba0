-- Which tables a version of the table text can show.
--     Fits v t               the tables fit the version
use Rattle.std.specs.Prelude.{◌≡◌, ℕ, ◌≤◌, ⊤, Bool, true, false, IsTrue, length, Some}
use Rattle.std.specs.List.{list_all}
use Rattle.meta_inst.specs.Which.{Which, First, Second}
use Rattle.meta_inst.specs.Tables.{TableContents, OpcodeNumbers, NumberConstraint, ConcreteNumber, FreeOf, SameNumber, ByNumber}
use Rattle.meta_inst.specs.Tables.{at_opcode, no_type_set}
use Rattle.meta_gen.specs.WholeTables.{WholeTables}
use Rattle.meta_table_text.specs.declared.version.Version.{Version}
use Rattle.meta_table_text.specs.declared.version.Version.TheVariants.{One, Two, Three}

-- the places of opcodes and of type sets have one byte, beside which 255 stands for none
pub record IsSmall (t : TableContents) : Type 0 where
  pub opcodes : length t.entries ≤ 255
  pub type_sets : length t.type_sets ≤ 255

-- the opcode has no type set of a second control
abbrev pub LacksSecondSet : TableContents → ℕ → Type 0
LacksSecondSet t op = (e : OpcodeNumbers) → at_opcode t.entries op ≡ Some e → e.second_offset ≡ no_type_set

-- no opcode has one
abbrev pub HasNoSecondSet : TableContents → Type 0
HasNoSecondSet t = (op : ℕ) → LacksSecondSet t op

-- whether it is the control, and not the second control
abbrev pub is_first : Which → Bool
is_first First = true
is_first Second = false

-- whether the constraint asks for nothing of the second control
abbrev pub asks_of_no_second : NumberConstraint → Bool
asks_of_no_second (ConcreteNumber n) = true
asks_of_no_second (FreeOf j) = true
asks_of_no_second (SameNumber which) = is_first which
asks_of_no_second (ByNumber which f) = is_first which

-- nothing in the tables speaks of a second control
pub record KnowsNoSecond (t : TableContents) : Type 0 where
  pub small : IsSmall t
  pub no_set : HasNoSecondSet t
  pub no_constraint : IsTrue (list_all asks_of_no_second t.operand_constraints)

-- the version can show the tables: each can be shown in version 3, small ones in version 2, and in version 1 those of them
-- that know no second control
abbrev pub Fits : Version → WholeTables → Type 0
Fits One t = KnowsNoSecond t.opcodes
Fits Two t = IsSmall t.opcodes
Fits Three t = ⊤
