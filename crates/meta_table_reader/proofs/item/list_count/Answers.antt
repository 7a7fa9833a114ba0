use Rattle.std.proofs.Common.{◌++◌, refl, sym, ap, ◌∙◌, codes}
use Rattle.std.specs.Fmt.{decimal}
use Rattle.meta_table_text.specs.Lists.{head_of}
use Rattle.meta_table_reader.proofs.Heads.{head_grouped}
use Rattle.meta_table_reader.proofs.item.list_count.Goals as goal

pub returns : goal.returns
returns c = λ n rest small e.
    let list = c.args.list in
    let at_count = decimal n ++ (codes "] = [\n" ++ rest) in
    let titled = e ∙ head_grouped list n rest ∙ ap (λ title. title ++ (head_of list ++ at_count)) (sym c.title.ensures) in
    let named = c.pass.ensures.item (head_of list ++ at_count) titled ∙ ap (λ head. head ++ at_count) (sym c.head.ensures) in
    let (count, left) = c.number-count.ensures.item n (codes "] = [\n" ++ rest) small refl refl named in
    (count, c.pass-2.ensures.item rest left)
