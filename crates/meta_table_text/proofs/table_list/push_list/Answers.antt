use Rattle.std.proofs.Common.{◌≡◌, ◌++◌, append_assoc, sym, ap, ap₂, ◌∙◌, codes, string_bytes}
use Rattle.std.specs.Fmt.{decimal}
use Rattle.std.proofs.lemmas.Result.{on_ok_weaker}
use Rattle.meta_table_text.specs.Lists.{title_of, head_of, list_head, list_end}
use Rattle.meta_table_text.proofs.table_list.push_list.Goals as goal

pub returns : goal.returns
unfolding list_head
returns c =
    let list = c.args.list in
    let count = decimal c.args.count in
    let lines = c.args.lines.now in
    let joined : (title_of list ++ (head_of list ++ (count ++ codes "] = [\n"))) ++ (lines ++ list_end)
    ≡ title_of list ++ (head_of list ++ (count ++ (codes "] = [\n" ++ (lines ++ list_end)))) = simp append_assoc in
    on_ok_weaker c.write.result
    (λ e. e ∙ ap₂ (λ title head. string_bytes c.args.out.now ++ (title ++ (head ++ (count ++ (codes "] = [\n" ++ (lines ++ list_end))))))
    c.title-title.ensures c.head-head.ensures ∙ ap (λ t. string_bytes c.args.out.now ++ t) (sym joined))
    c.write.ensures.bytes
