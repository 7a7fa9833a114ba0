-- Texts of the members of a format: parts of the pattern of an arm, and lines of it.
--     member_filled text member       a template of a member
--     of_member f member              this text of a member, if there is one
--     of_fields f fields              this text of the member of each field
--     pattern_text opcode values blocks others f      the pattern of a format, by the texts of its members
use Rattle.std.specs.Prelude.{ℕ, List, [], ◌∷◌, ◌++◌, map, Option, None, Some, codes}
use Rattle.std.specs.List.{flat_map}
use Rattle.meta_operands.specs.declared.field.FormatField.{FormatField}
use Rattle.meta_operands.specs.declared.format.InstructionFormat.{InstructionFormat}
use Rattle.meta_text.specs.Filled.{filled}
use Rattle.meta_rust_insts.specs.declared.members.TheConstants.{MEMBER_HOLES}
use Rattle.meta_rust_insts.specs.Held.{values_of, blocks_of, has_raw_block, values_member, blocks_member, raw_block_member}

abbrev pub member_filled : List ℕ → List ℕ → List ℕ
member_filled text member = filled text (map (λ h. h.now) MEMBER_HOLES) (member ∷ [])

abbrev pub of_member : (List ℕ → List ℕ) → Option (List ℕ) → List ℕ
of_member f None = []
of_member f (Some member) = f member

abbrev pub of_fields : (List ℕ → List ℕ) → List FormatField → List ℕ
of_fields f fields = flat_map (λ field. f field.member) fields

-- a member in a pattern, with this before it: nothing, or `ref `
abbrev pub further : List ℕ → List ℕ → List ℕ
further before member = codes ", " ++ (before ++ member)

-- the opcode, the members of the values, of the blocks and of the block without arguments, and those of the fields
abbrev pub pattern_text : List ℕ → (List ℕ → List ℕ) → (List ℕ → List ℕ) → (List ℕ → List ℕ) → InstructionFormat → List ℕ
pattern_text opcode values blocks others f =
    opcode
    ++ (of_member values (values_member (values_of f))
    ++ (of_member blocks (blocks_member (blocks_of f))
    ++ (of_member others (raw_block_member (has_raw_block f)) ++ of_fields others f.imm_fields)))
