use Rattle.std.proofs.Common.{◌++◌, ap, ◌∙◌, codes, string_bytes}
use Rattle.std.proofs.lemmas.Result.{on_ok_weaker}
use Rattle.meta_lists.proofs.Joined.{where_ok}
use Rattle.meta_table_text.specs.TypeSetText.{members, part_of, masks_text}
use Rattle.meta_table_text.proofs.Lists.{six}
use Rattle.meta_table_text.proofs.type_set_text.push_set_text.Goals as goal

pub returns : goal.returns
unfolding masks_text
returns c =
    let m = c.args.masks.now in
    let ints = c.in_ok-push_part.ensures ∙ ap (λ n. string_bytes c.push_str-2.new.self ++ part_of (codes ", ints={") n) c.from.ensures in
    let floats = c.in_ok-push_part-2.ensures
    ∙ ap (λ n. string_bytes c.push_part.new.out ++ part_of (codes ", floats={") n) c.from-2.ensures in
    on_ok_weaker c.push_str-3.result
    (six (string_bytes c.args.out.now) (codes "TypeSet(lanes={") (members m.lanes) (codes "}")
    (part_of (codes ", ints={") m.ints) (part_of (codes ", floats={") m.floats) (codes ")")
    c.in_ok-push_str.ensures.bytes c.in_ok-push_members.ensures c.in_ok-push_str-2.ensures.bytes ints floats)
    (where_ok c.push_str-3.result (string_bytes c.push_part-2.new.out) (codes ")") c.push_str-3.ensures.bytes)
