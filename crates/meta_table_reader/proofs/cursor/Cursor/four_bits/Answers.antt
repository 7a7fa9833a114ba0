use Rattle.std.proofs.Common.{ap, drop, ◌∙◌}
use Rattle.std.proofs.lemmas.List.{drop-drop}
use Rattle.meta_table_reader.proofs.cursor.Cursor.four_bits.Goals as goal

pub returns-clause-left : goal.returns-clause-left
returns-clause-left c =
    c.bit-one.ensures.left ∙ ap (drop 1) (c.bit-two.ensures.left
    ∙ ap (drop 1) (c.bit-four.ensures.left ∙ ap (drop 1) c.bit-eight.ensures.left ∙ drop-drop 1 1 c.args.self.now)
    ∙ drop-drop 1 2 c.args.self.now) ∙ drop-drop 1 3 c.args.self.now
