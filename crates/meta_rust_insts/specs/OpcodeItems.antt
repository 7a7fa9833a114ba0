-- The items of the text of opcodes. An instruction goes by the camel case of its name.
--     opcode_text formats number c   an instruction in the enum `Opcode`, with what gives its number
--     listed_line c, named_arm c     the instruction in the list of all opcodes, and in the arms that give the names
use Rattle.std.specs.Prelude.{ℕ, List, [], ◌∷◌, ◌++◌, slice_get, Option, None, Some, if◌then◌else◌, codes}
use Rattle.std.specs.Option.{option_and_then}
use Rattle.meta_text.specs.Lines.{at, lines_onto, text_of}
use Rattle.meta_operands.specs.declared.operand.Operand.{Operand}
use Rattle.meta_operands.specs.declared.format.InstructionFormat.{InstructionFormat}
use Rattle.meta_inst.specs.declared.polymorphic.PolymorphicInfo.{PolymorphicInfo}
use Rattle.meta_inst.specs.Built.{BuiltInstruction}
use Rattle.meta_inst.specs.Content.{instruction_text}

-- the input that holds the value which its format designates
abbrev pub designated_input : InstructionFormat → BuiltInstruction → Option Operand
designated_input f c = option_and_then (slice_get c.operands_in) (option_and_then (slice_get c.value_opnums) f.typevar_operand)

-- the input from whose type the control is inferred: the designated one, if the control is its variable
abbrev pub inferring_input : InstructionFormat → BuiltInstruction → Option Operand
inferring_input f c =
    option_and_then (λ (info : PolymorphicInfo). if info.use_typevar_operand then designated_input f c else None)
    c.polymorphic_info

-- the line on that input, if there is one
abbrev pub inferred_line : Option Operand → List ℕ
inferred_line None = []
inferred_line (Some input) = text_of (at 1 (codes "/// Type inferred from `" ∷ input.name ∷ codes "`." ∷ []) ∷ [])

-- an instruction in the enum: how it is displayed, the name of its format, the line on what its type is inferred from, its name, and what
-- gives its number
unfoldable pub opcode_lines : List ℕ → List ℕ → List ℕ → List ℕ → List ℕ → List ℕ
opcode_lines shown format inferred name number =
    lines_onto (at 1 (codes "/// `" ∷ shown ∷ codes "`. (" ∷ format ∷ codes ")" ∷ []) ∷ [])
    (inferred ++ text_of (at 1 (name ∷ number ∷ codes "," ∷ []) ∷ []))

-- an instruction of this format in the enum
abbrev pub opcode_with : Option InstructionFormat → List ℕ → BuiltInstruction → List ℕ
opcode_with None number c = []
opcode_with (Some f) number c =
    opcode_lines (instruction_text c) f.name (inferred_line (inferring_input f c)) c.camel_name number

-- the same, where the format is looked up in this table
abbrev pub opcode_text : List InstructionFormat → List ℕ → BuiltInstruction → List ℕ
opcode_text formats number c = opcode_with (slice_get formats c.format) number c

-- the instruction in the list of all opcodes
unfoldable pub listed_line : BuiltInstruction → List ℕ
listed_line c = text_of (at 3 (codes "Opcode::" ∷ c.camel_name ∷ codes "," ∷ []) ∷ [])

-- the arm that gives its name
unfoldable pub named_arm : BuiltInstruction → List ℕ
named_arm c = text_of (at 2 (codes "Opcode::" ∷ c.camel_name ∷ codes " => \"" ∷ c.name ∷ codes "\"," ∷ []) ∷ [])
