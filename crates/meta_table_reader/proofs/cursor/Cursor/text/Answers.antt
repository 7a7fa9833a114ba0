use Rattle.std.proofs.Common.{◌∙◌}
use Rattle.std.proofs.lemmas.Result.{IfOk-weaker}
use Rattle.std.proofs.lemmas.Str.{IsUtf8-from_ascii}
use Rattle.meta_table_reader.proofs.cursor.Cursor.text.Goals as goal

pub returns-clause-item : goal.returns-clause-item
returns-clause-item c =
    IfOk-weaker c.text_of.result _ _
    (λ t is item rest ascii free stops e.
    let (bytes, left) = c.until.ensures.item item rest free stops e in
    (is (rw bytes (IsUtf8-from_ascii item ascii)) ∙ bytes, left))
    c.text_of.ensures
