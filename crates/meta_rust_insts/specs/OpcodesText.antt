-- The text of the opcodes: the enum `Opcode`, its methods, and the names of the instructions.
--     opcodes_text b         the text
use Rattle.std.specs.Prelude.{◌≡◌, ◌<◌, ℕ, nat_lt, List, [], ◌∷◌, ◌++◌, length, slice_get, Some, if◌then◌else◌, codes}
use Rattle.std.specs.List.{flat_map}
use Rattle.meta_text.specs.Lines.{at, empty_line, lines_onto, text_of}
use Rattle.meta_operands.specs.declared.format.InstructionFormat.{InstructionFormat}
use Rattle.meta_inst.specs.Built.{BuiltInstruction}
use Rattle.meta_build.specs.BuiltDeclarations.{BuiltDeclarations}
use Rattle.meta_rust_insts.specs.OpcodeItems.{opcode_text, listed_line, named_arm}
use Rattle.meta_rust_insts.specs.Accessors.{accessors_text}

-- the format of each of the instructions is of the table
abbrev pub HaveFormats : List InstructionFormat → List BuiltInstruction → Type 0
HaveFormats formats cs = (k : ℕ) (c : BuiltInstruction) → slice_get cs k ≡ Some c → c.format < length formats

-- the integer type that holds the numbers of this count of opcodes, from 1
abbrev pub number_type : ℕ → List ℕ
number_type count = if nat_lt 255 count then codes "u16" else codes "u8"

-- the instructions in the enum: the number of the first is 1
abbrev pub each_opcode : List InstructionFormat → List BuiltInstruction → List ℕ
each_opcode formats [] = []
each_opcode formats (c ∷ cs) = opcode_text formats (codes " = 1") c ++ flat_map (opcode_text formats []) cs

-- the text of these instructions, whose formats are of the table, and whose numbers have this type: the enum, its methods, of which the
-- last lists all opcodes, and the function that gives the names
unfoldable pub opcodes_part : List ℕ → List InstructionFormat → List BuiltInstruction → List ℕ
opcodes_part repr formats cs =
    lines_onto (
    at 0 (codes "/// An instruction opcode." ∷ [])
    ∷ at 0 (codes "#[repr(" ∷ repr ∷ codes ")]" ∷ [])
    ∷ at 0 (codes "#[derive(Copy, Clone, PartialEq, Eq, Debug, Hash)]" ∷ [])
    ∷ at 0 (codes "pub enum Opcode {" ∷ []) ∷ [])
    (each_opcode formats cs ++ lines_onto (
    at 0 (codes "}" ∷ [])
    ∷ empty_line
    ∷ at 0 (codes "impl Opcode {" ∷ []) ∷ [])
    (accessors_text cs ++ lines_onto (
    at 1 (codes "/// All cranelift opcodes." ∷ [])
    ∷ at 1 (codes "pub fn all() -> &'static [Opcode] {" ∷ [])
    ∷ at 2 (codes "return &[" ∷ []) ∷ [])
    (flat_map listed_line cs ++ lines_onto (
    at 2 (codes "];" ∷ [])
    ∷ at 1 (codes "}" ∷ [])
    ∷ empty_line
    ∷ at 0 (codes "}" ∷ [])
    ∷ empty_line
    ∷ at 0 (codes "fn opcode_name(opc: Opcode) -> &'static str {" ∷ [])
    ∷ at 1 (codes "match opc {" ∷ []) ∷ [])
    (flat_map named_arm cs ++ text_of (
    at 1 (codes "}" ∷ [])
    ∷ at 0 (codes "}" ∷ [])
    ∷ empty_line ∷ [])))))

-- the text of the instructions, in order. It ends with an empty line.
abbrev pub opcodes_text : BuiltDeclarations → List ℕ
opcodes_text b = opcodes_part (number_type (length b.instructions)) b.declared.set.formats b.instructions
