use Rattle.std.proofs.Common.{[], ◌++◌, string_bytes, ap, ◌∙◌}
use Rattle.std.proofs.lemmas.List.{drop_all}
use Rattle.std.specs.List.{flat_map}
use Rattle.meta_lists.proofs.Joined.{four}
use Rattle.meta_text.proofs.Pieces.{ended}
use Rattle.meta_rust_insts.specs.declared.data.TheConstants.{RAW_BLOCK}
use Rattle.meta_rust_insts.specs.Held.{values_of}
use Rattle.meta_rust_insts.specs.Members.{member_filled, of_member}
use Rattle.meta_rust_insts.specs.DataText.{values_text, blocks_text, raw_blocks_text, field_line, members_text}
use Rattle.meta_rust_insts.proofs.EnumTemplates.{raw_block_same}
use Rattle.meta_rust_insts.proofs.data.members.Goals as goal

pub returns : goal.returns
unfolding members_text
returns c =
    let f = c.args.format.now in
    four [] (values_text (values_of f)) (blocks_text f.num_block_operands) (raw_blocks_text f.num_raw_block_operands)
    (flat_map field_line f.imm_fields)
    (c.in_ok-push_values.ensures ∙ (λ i. c.new-text.ensures.bytes i ++ values_text (c.values_of.ensures i)))
    c.in_ok-push_blocks.ensures
    (c.in_ok-push_member.ensures ∙ ap (λ t. string_bytes c.push_blocks.new.out ++ t)
    (ap (of_member (member_filled RAW_BLOCK.now)) c.raw_block_member.ensures ∙ raw_block_same f))
    (ended _ _ _ (ap (flat_map field_line) (drop_all c.loop-field.field-index c.as_slice-fields.result.now c.loop-field-test.false))
    c.loop-field.invariant
    ∙ ap (λ fields. string_bytes c.push_member.new.out ++ flat_map field_line fields) c.as_slice-fields.ensures)
