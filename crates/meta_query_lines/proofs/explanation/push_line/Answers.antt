use Rattle.std.proofs.Common.{[], ◌∷◌, string_bytes, rules}
use Rattle.std.proofs.lemmas.Result.{on_ok_weaker}
use Rattle.meta_query_lines.specs.Explanation.{IsExplanation}
use Rattle.meta_query_lines.proofs.AnswerLemmas.{pushed}
use Rattle.meta_query_lines.proofs.TextLemmas.{line_written}
use Rattle.meta_query_lines.specs.Told.{told_by}
use Rattle.meta_query_lines.proofs.explanation.push_line.Goals as goal

pub returns : goal.returns
returns c =
    on_ok_weaker c.push_str.result
    (line_written (IsExplanation c.args.tables.now (told_by c.args.told)) c.args.line.now
    (string_bytes c.args.out.now) (string_bytes c.push_explanation.new.out) (string_bytes c.push_str.new.self) c.if-is_empty.ensures
    c.in_ok-push_explanation.ensures)
    (pushed c.push_str.result (string_bytes c.push_explanation.new.out) (string_bytes c.push_str.new.self) (10 ∷ [])
    c.push_str.ensures.bytes)

pub returns-then-is_empty : goal.returns-then-is_empty
returns-then-is_empty c = search rules
