-- The templates, filled, are the lines of the definitions.
use Rattle.std.proofs.Common.{◌≡◌, ℕ, ◌==◌, Bool, true, false, not, List, [], ◌∷◌, refl, map, codes, if◌then◌else◌}
use Rattle.std.proofs.lemmas.Grind.{common_steps}
use Rattle.std.specs.List.{flat_map}
use Rattle.meta_text.specs.Filled.{filled}
use Rattle.meta_text.specs.Lines.{at, text_of}
use Rattle.meta_operands.specs.FormatText.{format_text}
use Rattle.meta_operands.specs.declared.format.InstructionFormat.{InstructionFormat}
use Rattle.meta_inst.specs.Built.{BuiltInstruction}
use Rattle.meta_build.specs.BuiltDeclarations.{BuiltDeclarations}
use Rattle.meta_rust_insts.specs.declared.accessors.Mark.{Mark}
use Rattle.meta_rust_insts.specs.declared.accessors.TheConstants.{ACCESSOR, ACCESSOR_HOLES}
use Rattle.meta_rust_insts.specs.declared.data.TheConstants.{DATA, DATA_HOLES, VARIANT, VARIANT_HOLES, RAW_BLOCK}
use Rattle.meta_rust_insts.specs.declared.formats.TheConstants.{FORMATS, FORMATS_HOLES, ENTRY, ENTRY_HOLES, ARM, ARM_HOLES}
use Rattle.meta_rust_insts.specs.declared.opcodes.TheConstants.{OPCODES, OPCODES_HOLES, LISTED, NAMED, NAME_HOLES}
use Rattle.meta_rust_insts.specs.Held.{has_raw_block, raw_block_member}
use Rattle.meta_rust_insts.specs.Members.{member_filled, of_member}
use Rattle.meta_rust_insts.specs.InUse.{formats_in}
use Rattle.meta_rust_insts.specs.FormatsText.{entry_text, told_arm, formats_text}
use Rattle.meta_rust_insts.specs.DataText.{raw_blocks_text, members_text, variant_text, data_text}
use Rattle.meta_rust_insts.specs.Accessors.{mark_name, mark_doc, mark_arm, accessor_text, accessors_text}
use Rattle.meta_rust_insts.specs.OpcodeItems.{listed_line, named_arm}
use Rattle.meta_rust_insts.specs.OpcodesText.{each_opcode, opcodes_part}

-- ---- formats and data

pub entry_same : (f : InstructionFormat)
    → filled ENTRY.now (map (λ h. h.now) ENTRY_HOLES) (format_text f ∷ f.name ∷ []) ≡ entry_text f
unfolding filled entry_text
entry_same f = refl

pub ruleset entry_steps = (common_steps, entry_same)

pub told_same : (f : InstructionFormat) → filled ARM.now (map (λ h. h.now) ARM_HOLES) (f.name ∷ []) ≡ told_arm f
unfolding filled told_arm
told_same f = refl

pub ruleset told_steps = (common_steps, told_same)

pub formats_same : (b : BuiltDeclarations) → filled FORMATS.now (map (λ h. h.now) FORMATS_HOLES)
    (flat_map entry_text (formats_in b) ∷ flat_map told_arm (formats_in b) ∷ []) ≡ formats_text b
unfolding filled formats_text
formats_same b = refl

-- the member for a block without arguments, if there is one
pub raw_block_same : (f : InstructionFormat)
    → of_member (member_filled RAW_BLOCK.now) (raw_block_member (has_raw_block f)) ≡ raw_blocks_text f.num_raw_block_operands
unfolding filled raw_blocks_text
raw_block_same f = by (f.num_raw_block_operands == 0)
  where
    by : (none : Bool) → of_member (member_filled RAW_BLOCK.now) (raw_block_member (not none))
        ≡ (if none then [] else text_of (at 2 (codes "block: ir::Block," ∷ []) ∷ []))
    by true = refl
    by false = refl

pub variant_same : (f : InstructionFormat)
    → filled VARIANT.now (map (λ h. h.now) VARIANT_HOLES) (f.name ∷ members_text f ∷ []) ≡ variant_text f
unfolding filled variant_text
variant_same f = refl

pub ruleset variant_steps = (common_steps, variant_same)

pub data_same : (b : BuiltDeclarations)
    → filled DATA.now (map (λ h. h.now) DATA_HOLES) (flat_map variant_text (formats_in b) ∷ []) ≡ data_text b
unfolding filled data_text
data_same b = refl

-- ---- opcodes

pub accessor_same : (mark : Mark) (cs : List BuiltInstruction) → filled ACCESSOR.now (map (λ h. h.now) ACCESSOR_HOLES)
    (mark_doc mark ∷ mark_name mark ∷ flat_map (mark_arm mark) cs ∷ []) ≡ accessor_text mark cs
unfolding filled accessor_text
accessor_same mark cs = refl

pub ruleset accessor_steps = (common_steps, accessor_same)

-- a line of an instruction
abbrev pub name_filled : List ℕ → BuiltInstruction → List ℕ
name_filled line c = filled line (map (λ h. h.now) NAME_HOLES) (c.camel_name ∷ c.name ∷ [])

pub opcodes_same : (repr : List ℕ) (formats : List InstructionFormat) (cs : List BuiltInstruction)
    → filled OPCODES.now (map (λ h. h.now) OPCODES_HOLES) (repr ∷ each_opcode formats cs ∷ accessors_text cs
    ∷ flat_map (name_filled LISTED.now) cs ∷ flat_map (name_filled NAMED.now) cs ∷ []) ≡ opcodes_part repr formats cs
unfolding filled opcodes_part listed_line named_arm
opcodes_same repr formats cs = refl
