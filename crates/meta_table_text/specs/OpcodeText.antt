-- The text of an opcode: its line among the formats, its slot, and its block among the constraints.
--     each_opcode f n        what f gives of the opcodes 1 to n, in order
--     format_line t op       the line of the opcode's format
--     slot_line t slot       the line of a slot of the names
--     opcode_block v t op e  the block of the opcode with this entry
use Rattle.std.specs.Prelude.{ℕ, zero, suc, ◌+◌, ◌/◌, ◌%◌, ◌==◌, Bool, false, List, [], ◌∷◌, ◌++◌, take, drop, slice_get, Option, None}
use Rattle.std.specs.Prelude.{Some, if◌then◌else◌, codes}
use Rattle.std.specs.Fmt.{decimal, digit_glyph}
use Rattle.meta_types.specs.CamelCase.{camel_case_of}
use Rattle.meta_inst.specs.Tables.{TableContents, OpcodeNumbers, NumberConstraint, at_opcode, no_type_set, result_count, value_count}
use Rattle.meta_text.specs.Lines.{at, text_of}
use Rattle.meta_table_text.specs.declared.version.Version.{Version}
use Rattle.meta_table_text.specs.declared.version.Version.TheVariants.{One, Two, Three}
use Rattle.meta_table_text.specs.Version.{offset_shown}
use Rattle.meta_table_text.specs.TypeSetText.{set_or_nothing, set_comment, block_end}
use Rattle.meta_table_text.specs.ConstraintText.{constraints_comment}

-- what f gives of the opcodes 1 to n, in order
abbrev pub each_opcode : (ℕ → List ℕ) → ℕ → List ℕ
each_opcode f zero = []
each_opcode f (suc n) = each_opcode f n ++ f (suc n)

-- a text, and nothing if there is no text
abbrev pub or_nothing : Option (List ℕ) → List ℕ
or_nothing None = []
or_nothing (Some text) = text

-- the name of an opcode, that of its format, and the camel case of its name, which stands for it in Rust source
abbrev pub name_at : TableContents → ℕ → List ℕ
name_at t op = or_nothing (at_opcode t.names op)

abbrev pub format_at : TableContents → ℕ → List ℕ
format_at t op = or_nothing (at_opcode t.formats op)

unfoldable pub camel_at : TableContents → ℕ → List ℕ
camel_at t op = camel_case_of (name_at t op)

-- the line of an opcode's format: `InstructionFormat::Load, // load`
unfoldable pub format_line : TableContents → ℕ → List ℕ
format_line t op = text_of (at 1 (codes "InstructionFormat::" ∷ format_at t op ∷ codes ", // " ∷ name_at t op ∷ []) ∷ [])

-- the line of a slot: that of an opcode, as `Some(Opcode::Load),`, or of a vacant slot
unfoldable pub slot_line : TableContents → Option ℕ → List ℕ
slot_line t None = text_of (at 1 (codes "None," ∷ []) ∷ [])
slot_line t (Some op) = text_of (at 1 (codes "Some(Opcode::" ∷ camel_at t op ∷ codes ")," ∷ []) ∷ [])

-- `true` or `false`
abbrev pub bool_text : Bool → List ℕ
bool_text b = if b then codes "true" else codes "false"

-- a byte in two small hexadecimal digits
unfoldable pub hex_byte : ℕ → List ℕ
hex_byte n = digit_glyph false (n / 16) ∷ digit_glyph false (n % 16) ∷ []

-- the first lines of a block, and the flags
unfoldable pub flags_lines : ℕ → List ℕ
flags_lines flags = text_of (at 1 (codes "OpcodeConstraints {" ∷ [])
    ∷ at 2 (codes "flags: 0x" ∷ hex_byte flags ∷ codes "," ∷ []) ∷ [])

-- the line of a field that is a place: `typeset_offset: 0,`
unfoldable pub place_line : List ℕ → ℕ → List ℕ
place_line field place = text_of (at 2 (field ∷ codes ": " ∷ decimal place ∷ codes "," ∷ []) ∷ [])

-- the line of the place of the second control's type set, which version 1 doesn't have
unfoldable pub second_line : Version → OpcodeNumbers → List ℕ
second_line One e = []
second_line Two e = place_line (codes "second_offset") (offset_shown Two e.second_offset)
second_line Three e = place_line (codes "second_offset") (offset_shown Three e.second_offset)

-- the fields of a block
unfoldable pub entry_fields : Version → OpcodeNumbers → List ℕ
entry_fields v e =
    flags_lines e.flags
    ++ (place_line (codes "typeset_offset") (offset_shown v e.typeset_offset)
    ++ (second_line v e ++ place_line (codes "constraint_offset") e.constraint_offset))

-- the comment on counts of results and values, and on what is said of the designated operand
abbrev pub counts_comment : List ℕ → ℕ → Bool → Bool → ℕ → List ℕ
counts_comment name results designated differs values = text_of (
    at 2 (
    codes "// "
    ∷ (name
    ∷ (codes ": fixed_results="
    ∷ (decimal results
    ∷ (codes ", use_typevar_operand="
    ∷ (bool_text designated
    ∷ codes ", requires_typevar_operand=" ∷ bool_text differs ∷ codes ", fixed_values=" ∷ decimal values ∷ [])))))
    )
    ∷ []
    )

-- the comment on the flags: `// Brif: fixed_results=0, use_typevar_operand=true, requires_typevar_operand=true, fixed_values=1`
unfoldable pub flags_comment : List ℕ → ℕ → List ℕ
flags_comment name flags = counts_comment name (result_count flags) (flags / 8 % 2 == 1) (flags / 16 % 2 == 1) (value_count flags)

-- the constraints of the entry: those of its results, and then those of its values
abbrev pub constraints_of : TableContents → OpcodeNumbers → List NumberConstraint
constraints_of t e = take (result_count e.flags + value_count e.flags) (drop e.constraint_offset t.operand_constraints)

-- the comment on a control, which stands exactly where the control has a type set
unfoldable pub control_comment : TableContents → List ℕ → ℕ → List ℕ
control_comment t about offset = if offset == no_type_set then [] else set_comment about (set_or_nothing (slice_get t.type_sets offset))

-- version 1 has no comment on the second control
unfoldable pub second_comment : Version → TableContents → OpcodeNumbers → List ℕ
second_comment One t e = []
second_comment Two t e = control_comment t (codes "Second control over ") e.second_offset
second_comment Three t e = control_comment t (codes "Second control over ") e.second_offset

-- the comments of a block, which repeat its fields
unfoldable pub entry_comments : Version → TableContents → ℕ → OpcodeNumbers → List ℕ
entry_comments v t op e =
    flags_comment (camel_at t op) e.flags
    ++ (constraints_comment (constraints_of t e)
    ++ (control_comment t (codes "Polymorphic over ") e.typeset_offset ++ second_comment v t e))

-- the block of an opcode with this entry: its fields, and then the comments
unfoldable pub entry_block : Version → TableContents → ℕ → OpcodeNumbers → List ℕ
entry_block v t op e = entry_fields v e ++ (entry_comments v t op e ++ block_end)

-- the block of an opcode, and nothing where it has no entry
abbrev pub block_or_nothing : Version → TableContents → ℕ → Option OpcodeNumbers → List ℕ
block_or_nothing v t op None = []
block_or_nothing v t op (Some e) = entry_block v t op e

unfoldable pub opcode_block : Version → TableContents → ℕ → List ℕ
opcode_block v t op = block_or_nothing v t op (at_opcode t.entries op)
