use Rattle.std.proofs.Common.{◌∙◌, string_bytes, rules}
use Rattle.meta_query_lines.specs.Answer.{IsTableReply}
use Rattle.meta_query_lines.proofs.AnswerLemmas.{line_answered}
use Rattle.meta_query_lines.proofs.answer.answer_line.Goals as goal

pub returns : goal.returns
returns c =
    line_answered (IsTableReply c.args.tables.now) c.args.line.now (string_bytes c.new-text.result)
    (string_bytes c.push_reply.new.out) c.in_ok-new.field-0 c.if-is_empty.ensures c.in_ok-push_reply.ensures c.new-text.ensures.bytes
    (c.in_ok-new.ensures ∙ c.as_str.ensures.value)

pub returns-then-is_empty : goal.returns-then-is_empty
returns-then-is_empty c = search rules
