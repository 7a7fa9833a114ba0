use Rattle.std.proofs.Common.{[], ◌++◌, string_bytes, ap, ◌∙◌}
use Rattle.meta_lists.proofs.Joined.{four}
use Rattle.meta_rust_insts.specs.declared.eq_method.TheConstants.{EQUAL}
use Rattle.meta_rust_insts.specs.Held.{values_of, blocks_of, has_raw_block, raw_block_member}
use Rattle.meta_rust_insts.specs.Members.{member_filled, of_member, of_fields}
use Rattle.meta_rust_insts.specs.EqMethod.{equal_member, equal_values, equal_blocks}
use Rattle.meta_rust_insts.proofs.eq_method.equal_members.Goals as goal

pub returns : goal.returns
unfolding equal_member
returns c =
    let f = c.args.format.now in
    let equals = member_filled EQUAL.now in
    four [] (of_fields equals f.imm_fields) (equal_values (values_of f)) (equal_blocks (blocks_of f))
    (of_member equals (raw_block_member (has_raw_block f)))
    (c.in_ok-push_fields.ensures ∙ (λ i. c.new-text.ensures.bytes i ++ of_fields equals (c.as_slice.ensures i)))
    (c.in_ok-push_str.ensures.bytes ∙ ap (λ t. string_bytes c.push_fields.new.out ++ t)
    (c.text.ensures ∙ ap equal_values c.values_of.ensures))
    (c.in_ok-push_str-2.ensures.bytes ∙ ap (λ t. string_bytes c.push_str.new.self ++ t)
    (c.text-2.ensures ∙ ap equal_blocks c.blocks_of.ensures))
    (c.in_ok-push_member.ensures ∙ ap (λ t. string_bytes c.push_str-2.new.self ++ t) (ap (of_member equals) c.raw_block_member.ensures))
