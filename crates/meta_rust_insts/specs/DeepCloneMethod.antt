-- The method of `InstructionData` that copies an instruction with its lists.
--     clone_arm f         the arm of a format in the method `deep_clone`
use Rattle.std.specs.Prelude.{ℕ, List, [], ◌∷◌, ◌++◌, codes}
use Rattle.meta_operands.specs.declared.format.InstructionFormat.{InstructionFormat}
use Rattle.meta_text.specs.Lines.{at, text_of}
use Rattle.meta_rust_insts.specs.declared.held.Values.{Values}
use Rattle.meta_rust_insts.specs.declared.held.Values.TheVariants as values
use Rattle.meta_rust_insts.specs.declared.held.Blocks.{Blocks}
use Rattle.meta_rust_insts.specs.Held.{values_of, blocks_of, has_raw_block, raw_block_member, by_values, by_blocks}
use Rattle.meta_rust_insts.specs.Members.{of_member, of_fields, further, pattern_text}
use Rattle.meta_rust_insts.specs.Rebuilt.{rebuilt_arm, kept}

-- the pattern of a format whose values are held in this way, by the texts of a member by reference and of one that isn't: a list of values
-- is taken by reference, and other values are not
abbrev pub clone_pattern : (List ℕ → List ℕ) → (List ℕ → List ℕ) → Values → InstructionFormat → List ℕ
clone_pattern by_reference plain values.Absent f = pattern_text (codes "opcode") plain plain plain f
clone_pattern by_reference plain values.One f = pattern_text (codes "opcode") plain plain plain f
clone_pattern by_reference plain (values.Several count) f = pattern_text (codes "opcode") plain plain plain f
clone_pattern by_reference plain values.Listed f = pattern_text (codes "opcode") by_reference plain plain f

-- a list of values is copied
abbrev pub cloned_values : Values → List ℕ
cloned_values held =
    by_values held (kept (codes "arg")) (kept (codes "args")) (text_of (at 5 (codes "args: args.deep_clone(pool)," ∷ []) ∷ []))

-- blocks are copied with the lists of their arguments
abbrev pub cloned_blocks : Blocks → List ℕ
cloned_blocks held =
    by_blocks held (text_of (at 5 (codes "destination: destination.deep_clone(pool)," ∷ []) ∷ []))
    (text_of (at 5 (codes "blocks: [blocks[0].deep_clone(pool), blocks[1].deep_clone(pool)]," ∷ []) ∷ []))

-- the members of a format, by the text of one that stays: all but values and blocks stay
abbrev pub cloned_members : (List ℕ → List ℕ) → InstructionFormat → List ℕ
cloned_members stays f =
    cloned_values (values_of f)
    ++ (cloned_blocks (blocks_of f)
    ++ (of_member stays (raw_block_member (has_raw_block f)) ++ of_fields stays f.imm_fields))

-- the arm of a format
unfoldable pub clone_arm : InstructionFormat → List ℕ
clone_arm f = rebuilt_arm f.name (clone_pattern (further (codes "ref ")) (further []) (values_of f) f) (cloned_members kept f)
