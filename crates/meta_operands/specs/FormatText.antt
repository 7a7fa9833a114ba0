-- How a format is written.
use Rattle.std.specs.Prelude.{ℕ, List, [], ◌∷◌, ◌++◌, codes, flat_map}
use Rattle.std.specs.Fmt.{decimal}
use Rattle.meta_operands.specs.declared.field.FormatField.{FormatField}
use Rattle.meta_operands.specs.declared.format.InstructionFormat.{InstructionFormat}

-- a field as it is written: `flags: ir::MemFlags`
abbrev pub field_text : FormatField → List ℕ
field_text field = field.member ++ (codes ": " ++ field.kind.rust_type)

-- fields after another one
abbrev pub more_fields_text : List FormatField → List ℕ
more_fields_text fields = flat_map (λ field. codes ", " ++ field_text field) fields

-- fields, parted by `, `
abbrev pub fields_text : List FormatField → List ℕ
fields_text [] = []
fields_text (field ∷ fields) = field_text field ++ more_fields_text fields

-- a format as it is written: its name, its fields and its three counts
abbrev pub format_text : InstructionFormat → List ℕ
format_text f =
    f.name ++ (codes "(imms=(" ++ (fields_text f.imm_fields
    ++ (codes "), vals=" ++ (decimal f.num_value_operands
    ++ (codes ", blocks=" ++ (decimal f.num_block_operands
    ++ (codes ", raw_blocks=" ++ (decimal f.num_raw_block_operands ++ codes ")"))))))))
