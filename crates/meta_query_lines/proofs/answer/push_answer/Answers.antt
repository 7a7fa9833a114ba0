use Rattle.std.proofs.Common.{[], ◌∷◌, string_bytes, rules}
use Rattle.std.proofs.lemmas.Result.{on_ok_weaker}
use Rattle.meta_query_lines.specs.Answer.{IsTableReply}
use Rattle.meta_query_lines.proofs.AnswerLemmas.{pushed, written}
use Rattle.meta_query_lines.proofs.answer.push_answer.Goals as goal

pub returns : goal.returns
returns c =
    on_ok_weaker c.push_str.result
    (written (IsTableReply c.args.tables.now) c.args.line.now (string_bytes c.args.out.now)
    (string_bytes c.push_reply.new.out) (string_bytes c.push_str.new.self) c.if-is_empty.ensures c.in_ok-push_reply.ensures)
    (pushed c.push_str.result (string_bytes c.push_reply.new.out) (string_bytes c.push_str.new.self) (10 ∷ []) c.push_str.ensures.bytes)

pub returns-then-is_empty : goal.returns-then-is_empty
returns-then-is_empty c = search rules
