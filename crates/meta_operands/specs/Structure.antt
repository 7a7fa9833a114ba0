-- The structure of a format: what is stored of an instruction, whatever the format is named.
use Rattle.std.specs.Hash as fed
use Rattle.std.specs.Prelude.{◌≡◌, ℕ, ◌==◌, ◌&&◌, Bool, List, ◌++◌, map}
use Rattle.std.specs.Bool.{beq}
use Rattle.meta_operands.specs.Texts.{same_pairs, pairs_writes}
use Rattle.meta_operands.specs.declared.field.FormatField.{FormatField}
use Rattle.meta_operands.specs.declared.format.InstructionFormat.{InstructionFormat}
use Rattle.meta_operands.specs.declared.structure.FormatStructure.{FormatStructure}

-- the field name and the Rust type of a field
abbrev pub names_of_field : FormatField → List ℕ × List ℕ
names_of_field field = (field.kind.rust_field_name, field.kind.rust_type)

-- the structure: the counts, whether there is a value list, and the field name and Rust type of each field in order
abbrev pub structure_of : InstructionFormat → FormatStructure
structure_of f = record {
  num_value_operands = f.num_value_operands;
  has_value_list = f.has_value_list;
  num_block_operands = f.num_block_operands;
  num_raw_block_operands = f.num_raw_block_operands;
  imm_field_names = map names_of_field f.imm_fields;
}

-- two formats store their operands alike
abbrev pub SharesStructure : InstructionFormat → InstructionFormat → Type 0
SharesStructure f g = structure_of f ≡ structure_of g

-- whether two structures are the same
abbrev pub same_structure : FormatStructure → FormatStructure → Bool
same_structure a b =
    (a.num_value_operands == b.num_value_operands)
    && (beq a.has_value_list b.has_value_list
    && ((a.num_block_operands == b.num_block_operands)
    && ((a.num_raw_block_operands == b.num_raw_block_operands)
    && same_pairs a.imm_field_names b.imm_field_names)))

-- what a structure feeds to a hasher: each of its parts
abbrev pub structure_writes : FormatStructure → fed.HashWrites
structure_writes s =
    fed.u32 s.num_value_operands
    ++ (fed.bool s.has_value_list
    ++ (fed.u32 s.num_block_operands
    ++ (fed.u32 s.num_raw_block_operands
    ++ pairs_writes s.imm_field_names)))
