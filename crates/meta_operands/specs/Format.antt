-- Instruction formats, and what the calls of a builder make of one.
use Rattle.std.specs.Prelude.{◌≡◌, ℕ, ◌==◌, ◌+◌, ◌<◌, ◌^◌, false, List, [], ◌∷◌, ◌++◌, Option, None, Some, if◌then◌else◌}
use Rattle.meta_operands.specs.declared.kind.OperandKind.{OperandKind}
use Rattle.meta_operands.specs.declared.field.FormatField.{FormatField}
use Rattle.meta_operands.specs.declared.format.InstructionFormat.{InstructionFormat}

-- a format without operands
abbrev pub empty_format : List ℕ → InstructionFormat
empty_format name = record {
  name = name;
  num_value_operands = 0;
  has_value_list = false;
  imm_fields = [];
  num_block_operands = 0;
  num_raw_block_operands = 0;
  typevar_operand = None;
}

-- the field that holds an operand of this kind: its member has the kind's field name
abbrev pub field_for : OperandKind → FormatField
field_for kind = record { kind = kind; member = kind.rust_field_name }

-- the format with one more field, the last
abbrev pub with_field : InstructionFormat → OperandKind → InstructionFormat
with_field f kind = record f { imm_fields = f.imm_fields ++ field_for kind ∷ [] }

-- each count can rise by one
pub record HasRoom (f : InstructionFormat) : Type 0 where
  pub values : f.num_value_operands + 1 < 2 ^ 32
  pub blocks : f.num_block_operands + 1 < 2 ^ 32
  pub raw_blocks : f.num_raw_block_operands + 1 < 2 ^ 32

-- the value input at this place, counted among the value inputs, can be designated: there is one, and none was
pub record CanDesignate (f : InstructionFormat) (place : ℕ) : Type 0 where
  pub undesignated : f.typevar_operand ≡ None
  pub within : place < f.num_value_operands

-- what designates an operand where nothing was designated: the first value operand, if there is one
abbrev pub designated_by : Option ℕ → ℕ → Option ℕ
designated_by None count = if count == 0 then None else Some 0
designated_by (Some place) count = Some place

-- the format as it is built
abbrev pub built_format : InstructionFormat → InstructionFormat
built_format f = record f { typevar_operand = designated_by f.typevar_operand f.num_value_operands }
