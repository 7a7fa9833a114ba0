-- The method of `InstructionData` that compares two instructions.
--     eq_arm f         the arm of a format in the method `eq`
use Rattle.std.specs.Prelude.{ℕ, List, [], ◌∷◌, ◌++◌, codes}
use Rattle.meta_operands.specs.declared.format.InstructionFormat.{InstructionFormat}
use Rattle.meta_text.specs.Lines.{at, lines_onto, text_of}
use Rattle.meta_rust_insts.specs.declared.held.Values.{Values}
use Rattle.meta_rust_insts.specs.declared.held.Blocks.{Blocks}
use Rattle.meta_rust_insts.specs.Held.{values_of, blocks_of, has_raw_block, raw_block_member, by_values, by_blocks}
use Rattle.meta_rust_insts.specs.Members.{of_member, of_fields, pattern_text}

-- a member in the pattern of the first instruction, with the mark `1`, and of the second, with the mark `2`: `, flags: ref flags1`
abbrev pub marked : List ℕ → List ℕ → List ℕ
marked mark member = codes ", " ++ (member ++ (codes ": ref " ++ (member ++ mark)))

-- a member is equal in both
unfoldable pub equal_member : List ℕ → List ℕ
equal_member member = text_of (at 4 (codes "&& " ∷ member ∷ codes "1 == " ∷ member ∷ codes "2" ∷ []) ∷ [])

-- the values are equal
abbrev pub equal_values : Values → List ℕ
equal_values held =
    by_values held (equal_member (codes "arg"))
    (text_of (at 4 (codes "&& args1.iter().zip(args2.iter()).all(|(a, b)| a == b)" ∷ []) ∷ []))
    (text_of (at 4 (codes "&& args1.as_slice(pool).iter().zip(args2.as_slice(pool).iter()).all(|(a, b)| a == b)" ∷ []) ∷ []))

-- the blocks are equal: one with its arguments, and two without
abbrev pub equal_blocks : Blocks → List ℕ
equal_blocks held =
    by_blocks held (equal_member (codes "destination"))
    (text_of (at 4 (codes "&& blocks1.iter().zip(blocks2.iter()).all(|(a, b)| a.block(pool) == b.block(pool))" ∷ []) ∷ []))

-- the members of a format, by the text of one that is equal: the fields, the values and the blocks
abbrev pub equal_members : (List ℕ → List ℕ) → InstructionFormat → List ℕ
equal_members equals f =
    of_fields equals f.imm_fields
    ++ (equal_values (values_of f)
    ++ (equal_blocks (blocks_of f) ++ of_member equals (raw_block_member (has_raw_block f))))

-- the arm of a format: the opcodes are equal, and the members
unfoldable pub eq_arm : InstructionFormat → List ℕ
eq_arm f =
    lines_onto (
    at 3 (
    codes "(&Self::"
    ∷ f.name
    ∷ codes " { "
    ∷ pattern_text (codes "opcode: ref opcode1") (marked (codes "1")) (marked (codes "1")) (marked (codes "1")) f
    ∷ codes " }, &Self::"
    ∷ f.name
    ∷ codes " { "
    ∷ pattern_text (codes "opcode: ref opcode2") (marked (codes "2")) (marked (codes "2")) (marked (codes "2")) f
    ∷ codes " }) => {" ∷ [])
    ∷ at 4 (codes "opcode1 == opcode2" ∷ []) ∷ [])
    (equal_members equal_member f ++ text_of (at 3 (codes "}" ∷ []) ∷ []))
