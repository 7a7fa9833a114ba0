use Rattle.std.proofs.Common.{◌++◌, ap, ◌∙◌, string_bytes}
use Rattle.std.proofs.lemmas.Result.{on_ok_weaker}
use Rattle.meta_query_lines.proofs.AnswerLemmas.{pushed}
use Rattle.meta_query_lines.proofs.answer.push_accepted.Goals as goal

pub returns : goal.returns
returns c =
    on_ok_weaker c.push_str.result
    (λ e line pieces named. (
      c.in_ok-reply.reply,
      c.in_ok-reply.ensures line pieces named,
      e ∙ ap (λ text. string_bytes c.args.out.now ++ text) c.text.ensures,
    ))
    (pushed c.push_str.result (string_bytes c.args.out.now) (string_bytes c.push_str.new.self) c.text.result.now c.push_str.ensures.bytes)
