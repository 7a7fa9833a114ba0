-- The method of `InstructionData` that maps what an instruction names.
--     mapper_method kind     the word of the mapper's method for operands of a kind, if it has one
--     map_arm f              the arm of a format in the method `map`
use Rattle.std.specs.Prelude.{ℕ, zero, suc, ◌==◌, List, [], ◌∷◌, ◌++◌, Option, None, Some, if◌then◌else◌, codes}
use Rattle.std.specs.List.{flat_map}
use Rattle.std.specs.Fmt.{decimal}
use Rattle.meta_operands.specs.Texts.{same_text}
use Rattle.meta_operands.specs.declared.kind.OperandKind.{OperandKind}
use Rattle.meta_operands.specs.declared.kind.OperandKindFields.{OperandKindFields}
use Rattle.meta_operands.specs.declared.kind.OperandKindFields.TheVariants.{EntityRef, VariableArgs, ImmValue, ImmEnum, TypeVar}
use Rattle.meta_operands.specs.declared.field.FormatField.{FormatField}
use Rattle.meta_operands.specs.declared.format.InstructionFormat.{InstructionFormat}
use Rattle.meta_text.specs.Lines.{at, text_of}
use Rattle.meta_rust_insts.specs.declared.held.Values.{Values}
use Rattle.meta_rust_insts.specs.declared.held.Values.TheVariants as values
use Rattle.meta_rust_insts.specs.declared.held.Blocks.{Blocks}
use Rattle.meta_rust_insts.specs.EntityWord.{entity_word}
use Rattle.meta_rust_insts.specs.Held.{values_of, blocks_of, has_raw_block, raw_block_member, by_blocks}
use Rattle.meta_rust_insts.specs.Members.{of_member, further, pattern_text}
use Rattle.meta_rust_insts.specs.Rebuilt.{rebuilt_arm, kept}

-- ---- values and blocks

-- the mapped value at a place of the array, with a comma and a space before it if it isn't the first
unfoldable pub mapped_value : ℕ → List ℕ
mapped_value place =
    if place == 0 then codes "mapper.map_value(args[0])"
    else (codes ", mapper.map_value(args[" ++ (decimal place ++ codes "])"))

-- the mapped values at the places below a count
abbrev pub mapped_below : ℕ → List ℕ
mapped_below zero = []
mapped_below (suc place) = mapped_below place ++ mapped_value place

-- a member that the mapper's method of this word maps: `flags: mapper.map_mem_flags(flags),`
unfoldable pub mapped : List ℕ → List ℕ → List ℕ
mapped member word = text_of (at 5 (member ∷ codes ": mapper.map_" ∷ word ∷ codes "(" ∷ member ∷ codes ")," ∷ []) ∷ [])

-- the array of mapped values, from their text
unfoldable pub mapped_array : List ℕ → List ℕ
mapped_array elements = text_of (at 5 (codes "args: [" ∷ elements ∷ codes "]," ∷ []) ∷ [])

-- the values
unfoldable pub mapped_values : Values → List ℕ
mapped_values values.Absent = []
mapped_values values.One = mapped (codes "arg") (codes "value")
mapped_values (values.Several count) = mapped_array (mapped_below count)
mapped_values values.Listed = mapped (codes "args") (codes "value_list")

-- the blocks
abbrev pub mapped_blocks : Blocks → List ℕ
mapped_blocks held =
    by_blocks held (mapped (codes "destination") (codes "block_call"))
    (text_of (at 5 (codes "blocks: [mapper.map_block_call(blocks[0]), mapper.map_block_call(blocks[1])]," ∷ []) ∷ []))

-- ---- fields

-- immediates stay, but for the flags of memory operations
abbrev pub immediate_mapper : List ℕ → Option (List ℕ)
immediate_mapper rust_type = if same_text rust_type (codes "ir::MemFlags") then Some (codes "mem_flags") else None

-- the word of the mapper's method: entities have the word of their type, and enums and values in fields stay
abbrev pub mapper_for : OperandKindFields → List ℕ → Option (List ℕ)
mapper_for EntityRef rust_type = Some (entity_word rust_type)
mapper_for VariableArgs rust_type = Some (codes "value_list")
mapper_for ImmValue rust_type = immediate_mapper rust_type
mapper_for (ImmEnum es) rust_type = None
mapper_for (TypeVar tv) rust_type = None

abbrev pub mapper_method : OperandKind → Option (List ℕ)
mapper_method kind = mapper_for kind.fields kind.rust_type

-- a member, which stays if no method of the mapper maps it
abbrev pub mapped_or_kept : List ℕ → Option (List ℕ) → List ℕ
mapped_or_kept member None = kept member
mapped_or_kept member (Some word) = mapped member word

-- a field
unfoldable pub mapped_field : FormatField → List ℕ
mapped_field field = mapped_or_kept field.member (mapper_method field.kind)

-- ---- the arm of a format

-- the mapped members of a format: its values and blocks, this text of the block without arguments, and its fields
abbrev pub mapped_members : (List ℕ → List ℕ) → InstructionFormat → List ℕ
mapped_members raw_block f =
    mapped_values (values_of f)
    ++ (mapped_blocks (blocks_of f)
    ++ (of_member raw_block (raw_block_member (has_raw_block f)) ++ flat_map mapped_field f.imm_fields))

unfoldable pub map_arm : InstructionFormat → List ℕ
map_arm f =
    rebuilt_arm f.name (pattern_text (codes "opcode") (further []) (further []) (further []) f)
    (mapped_members (λ member. mapped member (codes "block")) f)
