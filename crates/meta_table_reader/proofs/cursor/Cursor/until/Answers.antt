use Rattle.std.proofs.Common.{◌≡◌, ◌++◌, ◌==◌, not, drop, ap, ◌∙◌, arith}
use Rattle.std.proofs.lemmas.List.Sums.{prefix_len-le-length}
use Rattle.std.specs.List.{position_or_len}
use Rattle.meta_table_reader.proofs.Ends.{first_after, item_taken, item_left}
use Rattle.meta_table_reader.proofs.cursor.Cursor.until.Goals as goal

pub split_at-requires : goal.split_at-requires
split_at-requires c = let within = prefix_len-le-length (λ b. not (b == c.args.stop)) c.self.inside.left.now
    in omega (arith, within, c.end_of.ensures)

pub returns-clause-item : goal.returns-clause-item
returns-clause-item c = λ item rest free stops e.
    let text = c.self.inside.left.now in
    let is : text ≡ item ++ rest = c.self.view_is ∙ c.pass.ensures.item (item ++ rest) e in
    let end = c.end_of.ensures ∙ ap (position_or_len (λ b. b == c.args.stop)) is ∙ first_after c.args.stop item rest free stops in (
      c.split_at.ensures.front ∙ item_taken text item rest c.end_of.result is end,
      c.split_at.ensures.back
          ∙ item_left text item rest c.end_of.result is end,
    )

pub returns-clause-left : goal.returns-clause-left
returns-clause-left c =
    let is = c.self.view_is ∙ c.pass.ensures.left in
    let end = c.end_of.ensures ∙ ap (position_or_len (λ b. b == c.args.stop)) is in
    c.split_at.ensures.back ∙ (λ i. drop (end i) (is i))
