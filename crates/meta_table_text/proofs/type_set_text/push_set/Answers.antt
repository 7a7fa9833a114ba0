use Rattle.std.proofs.Common.{[], string_bytes}
use Rattle.std.proofs.lemmas.Result.{on_ok_weaker}
use Rattle.meta_lists.proofs.Joined.{three, where_ok}
use Rattle.meta_text.specs.Lines.{text_of}
use Rattle.meta_table_text.specs.TypeSetText.{mask_lines, masks_text, set_comment, block_end, set_block}
use Rattle.meta_table_text.proofs.type_set_text.push_set.Goals as goal

pub returns : goal.returns
unfolding set_block mask_lines block_end
returns c =
    let m = c.args.masks.now in
    on_ok_weaker c.push_str.result
    (three (string_bytes c.args.out.now) (text_of (mask_lines m)) (set_comment [] (masks_text m)) block_end
    c.in_ok-write.ensures.bytes c.in_ok-push_set_comment.ensures)
    (where_ok c.push_str.result (string_bytes c.push_set_comment.new.out) block_end c.push_str.ensures.bytes)
