-- Whether inputs are stored as a format says.
--     MatchesFormat format inputs      the format has a place for each input, and an input for each place
use Rattle.std.specs.Prelude.{◌≡◌, ℕ, Bool, true, not, ◌&&◌, List, map, filter, count_by, is_some}
use Rattle.std.specs.List.{list_any}
use Rattle.meta_operands.specs.Kind.{is_block_kind, is_raw_block_kind}
use Rattle.meta_operands.specs.Operand.{variable_of, is_varargs_operand, is_immediate_or_entityref_operand}
use Rattle.meta_operands.specs.declared.operand.Operand.{Operand}
use Rattle.meta_operands.specs.declared.field.FormatField.{FormatField}
use Rattle.meta_operands.specs.declared.format.InstructionFormat.{InstructionFormat}

-- whether the operand is a value
abbrev pub is_value_operand : Operand → Bool
is_value_operand o = is_some (variable_of o)

-- whether it is a block that is branched to with arguments
abbrev pub is_block_operand : Operand → Bool
is_block_operand o = is_block_kind o.kind

-- whether it is a block without arguments
abbrev pub is_raw_block_operand : Operand → Bool
is_raw_block_operand o = is_raw_block_kind o.kind

-- whether a field of a format holds it: it is an immediate, or a reference to an entity other than a block
abbrev pub is_field_operand : Operand → Bool
is_field_operand o = not (is_block_operand o) && (not (is_raw_block_operand o) && is_immediate_or_entityref_operand o)

-- the name of the field that holds an operand
abbrev pub operand_field_name : Operand → List ℕ
operand_field_name o = o.kind.rust_field_name

-- the name of a field
abbrev pub format_field_name : FormatField → List ℕ
format_field_name field = field.kind.rust_field_name

-- the field names of those of the operands that fields hold, in order
abbrev pub field_names : List Operand → List (List ℕ)
field_names operands = map operand_field_name (filter is_field_operand operands)

-- The inputs are as many values, blocks and raw blocks as the format says. The others that fields hold have the field names of
-- the format's fields, one for one in order. Varargs are there only where the format has a value list.
pub record MatchesFormat (format : InstructionFormat) (inputs : List Operand) : Type 0 where
  pub values : count_by is_value_operand inputs ≡ format.num_value_operands
  pub blocks : count_by is_block_operand inputs ≡ format.num_block_operands
  pub raw_blocks : count_by is_raw_block_operand inputs ≡ format.num_raw_block_operands
  pub fields : field_names inputs ≡ map format_field_name format.imm_fields
  pub varargs : list_any is_varargs_operand inputs ≡ true → format.has_value_list ≡ true
