use Rattle.std.proofs.Common.{ℕ, List, ◌++◌, length, ◌∙◌}
use Rattle.std.specs.List.{flat_map}
use Rattle.meta_table_text.specs.Lists.{list_end}
use Rattle.meta_table_reader.proofs.Heads.{list_grouped}
use Rattle.meta_table_reader.proofs.item.list_of.Goals as goal

pub returns : goal.returns
returns g c = λ items rest shown few e.
    let lines = flat_map g.T.Item.text items in
    let end : List ℕ = list_end ++ rest in
    let (count, a) = c.list_count-count.ensures (length items) (lines ++ end) few
    (e ∙ list_grouped c.args.list (length items) lines rest) in
    let (read, left) = c.in_ok-read.ensures items end shown count a in
    (read, c.pass.ensures.item rest left)
