-- The method of `InstructionData` that hashes an instruction.
--     hash_arm f         the arm of a format in the method `hash`
use Rattle.std.specs.Prelude.{ℕ, List, [], ◌∷◌, ◌++◌, codes}
use Rattle.meta_operands.specs.declared.format.InstructionFormat.{InstructionFormat}
use Rattle.meta_text.specs.Lines.{at, lines_onto, text_of}
use Rattle.meta_rust_insts.specs.declared.held.Values.{Values}
use Rattle.meta_rust_insts.specs.declared.held.Values.TheVariants as values
use Rattle.meta_rust_insts.specs.declared.held.Blocks.{Blocks}
use Rattle.meta_rust_insts.specs.declared.held.Blocks.TheVariants as blocks
use Rattle.meta_rust_insts.specs.Held.{values_of, blocks_of, has_raw_block, raw_block_member}
use Rattle.meta_rust_insts.specs.Members.{of_member, of_fields, further, pattern_text}

-- something is hashed
unfoldable pub hashed : List ℕ → List ℕ
hashed value = text_of (at 4 (codes "::core::hash::Hash::hash(&" ∷ value ∷ codes ", state);" ∷ []) ∷ [])

-- the count of the values is hashed, and then each of them
unfoldable pub hashed_each_value : List ℕ → List ℕ → List ℕ
hashed_each_value count args = text_of (
    at 4 (codes "::core::hash::Hash::hash(&" ∷ count ∷ codes ", state);" ∷ [])
    ∷ at 4 (codes "for &arg in " ∷ args ∷ codes " {" ∷ [])
    ∷ at 5 (codes "::core::hash::Hash::hash(&arg, state);" ∷ [])
    ∷ at 4 (codes "}" ∷ []) ∷ []
    )

-- the values
abbrev pub hashed_values : Values → List ℕ
hashed_values values.Absent = hashed (codes "0")
hashed_values values.One = hashed_each_value (codes "1") (codes "core::slice::from_ref(arg)")
hashed_values (values.Several count) = hashed_each_value (codes "args.len()") (codes "args")
hashed_values values.Listed = hashed_each_value (codes "args.len(pool)") (codes "args.as_slice(pool)")

-- the count of the blocks is hashed, and then each of them with its arguments
unfoldable pub hashed_each_block : List ℕ → List ℕ → List ℕ
hashed_each_block count blocks = text_of (
    at 4 (codes "::core::hash::Hash::hash(&" ∷ count ∷ codes ", state);" ∷ [])
    ∷ at 4 (codes "for &block in " ∷ blocks ∷ codes " {" ∷ [])
    ∷ at 5 (codes "::core::hash::Hash::hash(&block.block(pool), state);" ∷ [])
    ∷ at 5 (codes "for arg in block.args(pool) {" ∷ [])
    ∷ at 6 (codes "::core::hash::Hash::hash(&arg, state);" ∷ [])
    ∷ at 5 (codes "}" ∷ [])
    ∷ at 4 (codes "}" ∷ []) ∷ []
    )

-- the blocks
abbrev pub hashed_blocks : Blocks → List ℕ
hashed_blocks blocks.Absent = []
hashed_blocks blocks.One = hashed_each_block (codes "1") (codes "core::slice::from_ref(destination)")
hashed_blocks blocks.Two = hashed_each_block (codes "blocks.len()") (codes "blocks")

-- the members of a format, by the text of one that is hashed: the fields, the values and the blocks
abbrev pub hashed_members : (List ℕ → List ℕ) → InstructionFormat → List ℕ
hashed_members hashes f =
    of_fields hashes f.imm_fields
    ++ (hashed_values (values_of f)
    ++ (hashed_blocks (blocks_of f) ++ of_member hashes (raw_block_member (has_raw_block f))))

-- the arm of a format: which format it is, the opcode and the members are hashed; values and blocks are taken by reference
unfoldable pub hash_arm : InstructionFormat → List ℕ
hash_arm f =
    lines_onto (
    at 3 (
    codes "Self::"
    ∷ f.name
    ∷ codes "{"
    ∷ pattern_text (codes "opcode") (further (codes "ref ")) (further (codes "ref ")) (further []) f ∷ codes "} => {" ∷ [])
    ∷ at 4 (codes "::core::hash::Hash::hash( &::core::mem::discriminant(self), state);" ∷ [])
    ∷ at 4 (codes "::core::hash::Hash::hash(&opcode, state);" ∷ []) ∷ [])
    (hashed_members hashed f ++ text_of (at 3 (codes "}" ∷ []) ∷ []))
