use Rattle.std.proofs.Common.{[], ◌++◌, ap, ◌∙◌, codes, string_bytes}
use Rattle.meta_lists.proofs.Joined.{four}
use Rattle.meta_rust_text.specs.Arguments.{numbered_arguments, field_arguments, value_arguments, constructor_arguments}
use Rattle.meta_rust_text.proofs.arguments.constructor_arguments.Goals as goal

pub returns : goal.returns
unfolding constructor_arguments
returns c =
    let f = c.args.format.now in
    let raw_blocks = numbered_arguments (codes "block") (codes "ir::Block") f.num_raw_block_operands in
    four [] raw_blocks (field_arguments f.imm_fields)
    (numbered_arguments (codes "block") (codes "ir::BlockCall") f.num_block_operands)
    (value_arguments f.has_value_list f.num_value_operands)
    (c.in_ok-push_numbered_arguments.ensures ∙ ap (λ o. o ++ raw_blocks) c.new-text.ensures.bytes)
    (c.in_ok-push_field_arguments.ensures
    ∙ ap (λ fields. string_bytes c.push_numbered_arguments.new.out ++ field_arguments fields) c.as_slice.ensures)
    c.in_ok-push_numbered_arguments-2.ensures
    c.in_ok-push_value_arguments.ensures
