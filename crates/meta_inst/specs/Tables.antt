-- Tables, as contracts see them, and how they are read.
--     Allows tables op c d rs vs            the decoding: the tables accept these numbers for the opcode
--     AreOpcodeNumbersOf sets i control tables entry   the tables hold the instruction as this entry
use Rattle.std.specs.Prelude.{◌≡◌, ℕ, ◌+◌, ◌/◌, ◌%◌, ◌<◌, ◌==◌, ◌↔◌, ◌≢◌, List, ◌++◌, length, slice_get, Option, None, Some, MatchBool}
use Rattle.std.specs.Prelude.{zero, suc}
use Rattle.meta_types.specs.TypeParts.{number_of}
use Rattle.meta_types.specs.Function.{Function, StepsNumbers}
use Rattle.meta_typevar.specs.TypeSetParts.{TypeSetParts}
use Rattle.meta_typevar.specs.Masks.{ContainsNumber, AreMasksOf}
use Rattle.meta_typevar.specs.declared.masks.Masks.{Masks}
use Rattle.meta_typevar.specs.Variable.{Variable, Sets}
use Rattle.meta_inst.specs.Which.{Which, both}
use Rattle.meta_inst.specs.Instruction.{Instruction, IsOperand, IsDesignated, controls_of}
use Rattle.meta_inst.specs.Constraint.{TypeConstraint, ConcreteType, FreeType, SameType, ByType, IsConstraint}

-- the constraint of an operand in a table, by numbers: of a type, and of a type set
pub data NumberConstraint : Type 0 where
  ConcreteNumber : ℕ → NumberConstraint
  FreeOf : ℕ → NumberConstraint
  SameNumber : Which → NumberConstraint
  ByNumber : Which → Function → NumberConstraint

-- the four numbers of an opcode
pub record OpcodeNumbers : Type 0 where
  pub flags : ℕ
  pub typeset_offset : ℕ
  pub second_offset : ℕ
  pub constraint_offset : ℕ

-- the tables: the type sets, the one list of operand constraints, by opcode, from 1 on, the names, the names of the formats and
-- the entries, and the slots by which an opcode is found by its name
pub record TableContents : Type 0 where
  pub names : List (List ℕ)
  pub formats : List (List ℕ)
  pub opcode_slots : List (Option ℕ)
  pub type_sets : List Masks
  pub operand_constraints : List NumberConstraint
  pub entries : List OpcodeNumbers

-- the type set offset where an opcode has no control, or no second control
abbrev pub no_type_set : ℕ
no_type_set = 65535

-- what stands at opcode op in a list by opcodes, which begin at 1
abbrev pub at_opcode : {X : Type 0} → List X → ℕ → Option X
at_opcode xs zero = None
at_opcode xs (suc k) = slice_get xs k

-- the counts of value results and of value inputs that the flags hold, in bits 0 to 2 and 5 to 7
abbrev pub result_count : ℕ → ℕ
result_count flags = flags % 8

abbrev pub value_count : ℕ → ℕ
value_count flags = flags / 32 % 8

-- what the flags say in bit 3, that the designated operand's variable controls, and in bit 4, that it does and that the control
-- doesn't stand at the first result too
abbrev pub SaysDesignated : ℕ → Type 0
SaysDesignated flags = flags / 8 % 2 ≡ 1

abbrev pub SaysDiffers : ℕ → Type 0
SaysDiffers flags = flags / 16 % 2 ≡ 1

-- type set j contains the number n
pub record SetContains (tables : TableContents) (j n : ℕ) : Type 0 where
  pub masks : Masks
  pub is_set : slice_get tables.type_sets j ≡ Some masks
  pub contains : ContainsNumber masks n

-- there is no number for a control that the opcode doesn't have; else the type set at the offset contains the number
abbrev pub ControlNumberFits : TableContents → ℕ → Option ℕ → Type 0
ControlNumberFits tables offset c = MatchBool (offset == no_type_set) (c ≡ None) ((n : ℕ) × (c ≡ Some n) × SetContains tables offset n)

-- under these controlling numbers the number n passes the constraint
abbrev pub NumberPasses : TableContents → (Which → Option ℕ) → NumberConstraint → ℕ → Type 0
NumberPasses tables c (ConcreteNumber m) n = n ≡ m
NumberPasses tables c (FreeOf j) n = SetContains tables j n
NumberPasses tables c (SameNumber a) n = c a ≡ Some n
NumberPasses tables c (ByNumber a f) n = (u : ℕ) × (c a ≡ Some u) × StepsNumbers f u n

-- there is a constraint at this place of the list, and n passes it
pub record PassesAt (tables : TableContents) (c : Which → Option ℕ) (place n : ℕ) : Type 0 where
  pub constraint : NumberConstraint
  pub is_constraint : slice_get tables.operand_constraints place ≡ Some constraint
  pub passes : NumberPasses tables c constraint n

-- The decoding. The tables accept, for the opcode op, the controlling number c, the second controlling number d, the numbers rs
-- of the results and vs of the values: op is an opcode, the counts are those of its flags, the two controlling numbers fit, and
-- the k-th number passes the k-th constraint from the entry's offset on.
pub record Allows (tables : TableContents) (op : ℕ) (c d : Option ℕ) (rs vs : List ℕ) : Type 0 where
  pub entry : OpcodeNumbers
  pub is_opcode : at_opcode tables.entries op ≡ Some entry
  pub results : length rs ≡ result_count entry.flags
  pub values : length vs ≡ value_count entry.flags
  pub control_fits : ControlNumberFits tables entry.typeset_offset c
  pub second_fits : ControlNumberFits tables entry.second_offset d
  pub passes : (k n : ℕ) → slice_get (rs ++ vs) k ≡ Some n → PassesAt tables (both c d) (entry.constraint_offset + k) n

-- the designated operand's variable controls
abbrev pub DesignatedControls : Instruction → Option Variable → Type 0
DesignatedControls i control = (v : Variable) × (control ≡ Some v) × IsDesignated i v

-- there is no first result whose variable is the control
abbrev pub FirstResultDiffers : Instruction → Option Variable → Type 0
FirstResultDiffers i control = (w : Variable) → slice_get i.results 0 ≡ Some w → control ≢ Some w

-- the flags are eight bits, of which each is told: an instruction has one number as its flags
pub record AreFlagsOf (i : Instruction) (control : Option Variable) (flags : ℕ) : Type 0 where
  pub eight_bits : flags < 256
  pub results : result_count flags ≡ length i.results
  pub values : value_count flags ≡ length i.values
  pub designated : SaysDesignated flags ↔ DesignatedControls i control
  pub differs : SaysDiffers flags ↔ (DesignatedControls i control × FirstResultDiffers i control)

-- type set j holds the masks of s
pub record HoldsSet (tables : TableContents) (j : ℕ) (s : TypeSetParts) : Type 0 where
  pub masks : Masks
  pub is_set : slice_get tables.type_sets j ≡ Some masks
  pub are_masks : AreMasksOf s masks

-- the offset is 65535 exactly if there is no such control; else it is the place of the control's type set
abbrev pub IsTypeSetOffset : Sets → Option Variable → TableContents → ℕ → Type 0
IsTypeSetOffset sets None tables offset = offset ≡ no_type_set
IsTypeSetOffset sets (Some v) tables offset = (offset < no_type_set) × HoldsSet tables offset (sets v.root)

-- the table's constraint stands for the constraint over types
abbrev pub StandsFor : TableContents → TypeConstraint → NumberConstraint → Type 0
StandsFor tables (ConcreteType t) x = x ≡ ConcreteNumber (number_of t)
StandsFor tables (FreeType s) x = (j : ℕ) × (x ≡ FreeOf j) × HoldsSet tables j s
StandsFor tables (SameType a) x = x ≡ SameNumber a
StandsFor tables (ByType a f) x = x ≡ ByNumber a f

-- at this place the list has the constraint of the operand w
pub record Constrains (sets : Sets) (controls : Which → Option Variable) (tables : TableContents) (place : ℕ) (w : Variable) : Type 0 where
  pub constraint : TypeConstraint
  pub is_constraint : IsConstraint sets controls w constraint
  pub number_constraint : NumberConstraint
  pub stands : StandsFor tables constraint number_constraint
  pub placed : slice_get tables.operand_constraints place ≡ Some number_constraint

-- the entry holds the instruction with this control: flags, type sets and constraints are those of its declaration
pub record AreOpcodeNumbersOf (sets : Sets) (i : Instruction) (control : Option Variable) (tables : TableContents)
    (entry : OpcodeNumbers) : Type 0 where
  pub flags : AreFlagsOf i control entry.flags
  pub type_set : IsTypeSetOffset sets control tables entry.typeset_offset
  pub second_set : IsTypeSetOffset sets i.second tables entry.second_offset
  pub constraints : (k : ℕ) (w : Variable) → IsOperand i k w
      → Constrains sets (controls_of i control) tables (entry.constraint_offset + k) w
