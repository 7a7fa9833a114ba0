use Rattle.std.proofs.Common.{ap, drop, ◌∙◌, rules}
use Rattle.std.proofs.lemmas.List.{drop-drop}
use Rattle.meta_table_reader.proofs.cursor.Cursor.hex.Goals as goal

pub returns-clause-item : goal.returns-clause-item
returns-clause-item c = search rules

pub returns-clause-left : goal.returns-clause-left
returns-clause-left c = c.digit-low.ensures.left ∙ ap (drop 1) c.digit-high.ensures.left
    ∙ drop-drop 1 1 c.pass.new.self ∙ ap (drop 2) c.pass.ensures.left
