use Rattle.std.proofs.Common.{◌≡◌, ◌==◌, ◌++◌, drop, ap, ◌∙◌}
use Rattle.std.specs.List.{position_or_len}
use Rattle.meta_table_reader.proofs.Ends.{line_left}
use Rattle.meta_table_reader.proofs.cursor.Cursor.skip_line.Goals as goal

pub returns-clause-item : goal.returns-clause-item
returns-clause-item c = λ line rest is_line e.
    let is : c.self.inside.left.now ≡ line ++ rest = c.self.view_is ∙ e in
    let end = c.end_of-end.ensures ∙ ap (position_or_len (λ b. b == 10)) is in
    c.skip-2.ensures ∙ ap (drop 1) (c.skip.ensures ∙ (λ i. drop (end i) (e i))) ∙ line_left line rest is_line

pub returns-clause-left : goal.returns-clause-left
returns-clause-left c =
    let end = c.end_of-end.ensures ∙ ap (position_or_len (λ b. b == 10)) c.self.view_is in
    c.skip-2.ensures ∙ ap (drop 1) (c.skip.ensures ∙ ap (λ n. drop n c.args.self.now) end)
