-- Formats and instructions as declarations have them, by the numbers that a registry has for types.
--     Stores r slots f        the format stores these slots
--     IsFormatIn r m f        the format is what is meant
--     IsOperandIn r m o       the operand is what is meant
--     IsBuilderIn r m b       the instruction is what is meant
use Rattle.std.specs.Prelude.{◌≡◌, ℕ, ◌+◌, true, List, Option, Some, None, count_by}
use Rattle.std.specs.List.{AllZip, filter_map, list_any}
use Rattle.meta_operands.specs.Format.{with_field}
use Rattle.meta_operands.specs.Operand.{own_doc}
use Rattle.meta_operands.specs.declared.kind.OperandKind.{OperandKind}
use Rattle.meta_operands.specs.declared.field.FormatField.{FormatField}
use Rattle.meta_operands.specs.declared.format.InstructionFormat.{InstructionFormat}
use Rattle.meta_operands.specs.declared.operand.Operand.{Operand}
use Rattle.meta_inst.specs.Builder.{Builder, inputs_of, outputs_of}
use Rattle.meta_file_types.specs.Meant.{MeantKind, MeantType}
use Rattle.meta_file_types.specs.Registered.{Registered, IsTypeIn, IsKindIn}
use Rattle.meta_file_types.specs.Operands.{IsOperandKindIn}
use Rattle.meta_file_declare.specs.Formats.{MeantSlot, Value, Varargs, Block, RawBlock, Field, is_value, is_varargs, is_block, is_raw_block}
use Rattle.meta_file_declare.specs.Formats.{kind_in_field, MeantFormat}
use Rattle.meta_file_declare.specs.Insts.{MeantOperand, MeantInst}

-- ---- formats

-- the field holds an operand of this kind: its member has the kind's field name
pub record IsFieldIn (r : Registered) (kind : MeantKind) (f : FormatField) : Type 0 where
  pub kind_is : IsKindIn r kind f.kind
  pub member : f.member ≡ kind.field

-- the format has a place for each of these slots: it counts the values and the blocks, says whether any number of values may follow, and
-- has a field for each kind, in their order
pub record Stores (r : Registered) (slots : List MeantSlot) (f : InstructionFormat) : Type 0 where
  pub values : f.num_value_operands ≡ count_by is_value slots
  pub blocks : f.num_block_operands ≡ count_by is_block slots
  pub raw_blocks : f.num_raw_block_operands ≡ count_by is_raw_block slots
  pub varargs : f.has_value_list ≡ list_any is_varargs slots
  pub fields : AllZip (IsFieldIn r) (filter_map kind_in_field slots) f.imm_fields

-- the format is what is meant
pub record IsFormatIn (r : Registered) (m : MeantFormat) (f : InstructionFormat) : Type 0 where
  pub name : f.name ≡ m.name
  pub stores : Stores r m.slots f
  pub designated : f.typevar_operand ≡ m.designated

-- what one slot more makes of a format
abbrev pub AddsSlot : Registered → MeantSlot → InstructionFormat → InstructionFormat → Type 0
AddsSlot r Value old new = new ≡ record old { num_value_operands = old.num_value_operands + 1 }
AddsSlot r Varargs old new = new ≡ record old { has_value_list = true }
AddsSlot r Block old new = new ≡ record old { num_block_operands = old.num_block_operands + 1 }
AddsSlot r RawBlock old new = new ≡ record old { num_raw_block_operands = old.num_raw_block_operands + 1 }
AddsSlot r (Field kind) old new = (k : OperandKind) × IsKindIn r kind k × (new ≡ with_field old k)

-- ---- instructions

-- the operand is what is meant
pub record IsOperandIn (r : Registered) (m : MeantOperand) (o : Operand) : Type 0 where
  pub name : o.name ≡ m.name
  pub doc : own_doc o ≡ m.doc
  pub kind : IsOperandKindIn r m.what o.kind

-- the operands are, in order
abbrev pub AreOperandsIn : Registered → List MeantOperand → List Operand → Type 0
AreOperandsIn r ms operands = AllZip (IsOperandIn r) ms operands

-- a second type is named exactly where one is meant, and it is that one
abbrev pub IsSecondIn : Registered → Option MeantType → Option ℕ → Type 0
IsSecondIn r None None = Unit {0}
IsSecondIn r None (Some n) = ⊥
IsSecondIn r (Some m) None = ⊥
IsSecondIn r (Some m) (Some n) = IsTypeIn r m n

-- the instruction is what is meant, and both of its sides are set
pub record IsBuilderIn (r : Registered) (m : MeantInst) (b : Builder) : Type 0 where
  pub name : b.name ≡ m.name
  pub doc : b.doc ≡ m.doc
  pub format : b.format ≡ m.format
  pub inputs_set : b.operands_in ≡ Some (inputs_of b)
  pub outputs_set : b.operands_out ≡ Some (outputs_of b)
  pub inputs : AreOperandsIn r m.inputs (inputs_of b)
  pub outputs : AreOperandsIn r m.outputs (outputs_of b)
  pub marks : b.marks ≡ m.marks
  pub second : IsSecondIn r m.second b.second
