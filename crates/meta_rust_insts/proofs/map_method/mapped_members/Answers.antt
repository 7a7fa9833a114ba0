use Rattle.std.proofs.Common.{[], ◌++◌, string_bytes, ap, ◌∙◌}
use Rattle.std.proofs.lemmas.List.{drop_all}
use Rattle.std.specs.List.{flat_map}
use Rattle.meta_lists.proofs.Joined.{four}
use Rattle.meta_text.proofs.Pieces.{ended}
use Rattle.meta_rust_insts.specs.declared.map_method.TheConstants.{MAPPED_BLOCK}
use Rattle.meta_rust_insts.specs.Held.{values_of, blocks_of, has_raw_block, raw_block_member}
use Rattle.meta_rust_insts.specs.Members.{member_filled, of_member}
use Rattle.meta_rust_insts.specs.MapMethod.{mapped, mapped_values, mapped_blocks, mapped_field}
use Rattle.meta_rust_insts.proofs.map_method.mapped_members.Goals as goal

pub returns : goal.returns
unfolding mapped
returns c =
    let f = c.args.format.now in
    let raw_block = member_filled MAPPED_BLOCK.now in
    four [] (mapped_values (values_of f)) (mapped_blocks (blocks_of f)) (of_member raw_block (raw_block_member (has_raw_block f)))
    (flat_map mapped_field f.imm_fields)
    (c.in_ok-push_mapped_values.ensures ∙ (λ i. c.new-text.ensures.bytes i ++ mapped_values (c.values_of.ensures i)))
    (c.in_ok-push_str.ensures.bytes ∙ ap (λ t. string_bytes c.push_mapped_values.new.out ++ t)
    (c.text.ensures ∙ ap mapped_blocks c.blocks_of.ensures))
    (c.in_ok-push_member.ensures ∙ ap (λ t. string_bytes c.push_str.new.self ++ t) (ap (of_member raw_block) c.raw_block_member.ensures))
    (ended _ _ _ (ap (flat_map mapped_field) (drop_all c.loop-field.field-index c.as_slice-fields.result.now c.loop-field-test.false))
    c.loop-field.invariant
    ∙ ap (λ fields. string_bytes c.push_member.new.out ++ flat_map mapped_field fields) c.as_slice-fields.ensures)
