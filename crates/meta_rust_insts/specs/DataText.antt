-- The text of the data of instructions: the enum `InstructionData`, with a variant for each format in use.
--     variant_text f         the variant of a format
--     data_text b            the text
use Rattle.std.specs.Prelude.{ℕ, ◌==◌, List, [], ◌∷◌, ◌++◌, if◌then◌else◌, codes}
use Rattle.std.specs.List.{flat_map}
use Rattle.std.specs.Fmt.{decimal}
use Rattle.meta_text.specs.Lines.{at, empty_line, lines_onto, text_of}
use Rattle.meta_operands.specs.declared.field.FormatField.{FormatField}
use Rattle.meta_operands.specs.declared.format.InstructionFormat.{InstructionFormat}
use Rattle.meta_build.specs.BuiltDeclarations.{BuiltDeclarations}
use Rattle.meta_rust_insts.specs.declared.held.Values.{Values}
use Rattle.meta_rust_insts.specs.declared.held.Values.TheVariants as values
use Rattle.meta_rust_insts.specs.Held.{values_of}
use Rattle.meta_rust_insts.specs.InUse.{formats_in}

-- the member for the values: one value alone, an array, or a value list
abbrev pub values_text : Values → List ℕ
values_text values.Absent = []
values_text values.One = text_of (at 2 (codes "arg: Value," ∷ []) ∷ [])
values_text (values.Several count) = text_of (at 2 (codes "args: [Value; " ∷ decimal count ∷ codes "]," ∷ []) ∷ [])
values_text values.Listed = text_of (at 2 (codes "args: ValueList," ∷ []) ∷ [])

-- the member for this count of blocks: an array, or one block alone
unfoldable pub blocks_text : ℕ → List ℕ
blocks_text count =
    if count == 0 then []
    else (if count == 1 then text_of (at 2 (codes "destination: ir::BlockCall," ∷ []) ∷ [])
    else text_of (at 2 (codes "blocks: [ir::BlockCall; " ∷ decimal count ∷ codes "]," ∷ []) ∷ []))

-- the member for a block without arguments, if there is one
unfoldable pub raw_blocks_text : ℕ → List ℕ
raw_blocks_text count = if count == 0 then [] else text_of (at 2 (codes "block: ir::Block," ∷ []) ∷ [])

-- the member for a field of the format
unfoldable pub field_line : FormatField → List ℕ
field_line field = text_of (at 2 (field.member ∷ codes ": " ∷ field.kind.rust_type ∷ codes "," ∷ []) ∷ [])

-- the members of the variant of a format after its opcode: its values, its blocks, and its fields
unfoldable pub members_text : InstructionFormat → List ℕ
members_text f =
    values_text (values_of f)
    ++ (blocks_text f.num_block_operands
    ++ (raw_blocks_text f.num_raw_block_operands ++ flat_map field_line f.imm_fields))

-- the variant of a format
unfoldable pub variant_text : InstructionFormat → List ℕ
variant_text f =
    lines_onto (at 1 (f.name ∷ codes " {" ∷ []) ∷ at 2 (codes "opcode: Opcode," ∷ []) ∷ [])
    (members_text f ++ text_of (at 1 (codes "}" ∷ []) ∷ at 1 (codes "," ∷ []) ∷ []))

-- The text of the data of instructions, by the names of the formats in use. It ends with an empty line, which separates the enum from its
-- implementation.
unfoldable pub data_text : BuiltDeclarations → List ℕ
data_text b =
    lines_onto (
    at 0 (codes "#[derive(Copy, Clone, Debug, PartialEq, Eq, Hash)]" ∷ [])
    ∷ at 0 (codes "#[allow(missing_docs, reason = \"generated code\")]" ∷ [])
    ∷ at 0 (codes "pub enum InstructionData {" ∷ []) ∷ [])
    (flat_map variant_text (formats_in b) ++ text_of (at 0 (codes "}" ∷ []) ∷ empty_line ∷ []))
