use Rattle.std.proofs.Common.{◌++◌, inr, refl, ap, ◌∙◌, string_bytes}
use Rattle.std.proofs.lemmas.Result.{on_ok_weaker}
use Rattle.meta_gen.specs.declared.reply.Reply.TheVariants.{Bad}
use Rattle.meta_query_lines.proofs.AnswerLemmas.{of_setting, pushed}
use Rattle.meta_query_lines.proofs.QueryLemmas.{asks_setting}
use Rattle.meta_query_lines.proofs.answer.push_reply.Goals as goal

pub returns-in_default : goal.returns-in_default
returns-in_default c =
    on_ok_weaker c.push_str.result
    (λ e. (Bad, inr (refl, c.in_default.ensures.none), e ∙ ap (λ text. string_bytes c.args.out.now ++ text) c.text.ensures))
    (pushed c.push_str.result (string_bytes c.args.out.now) (string_bytes c.push_str.new.self) c.text.result.now c.push_str.ensures.bytes)

pub returns-in-Accept : goal.returns-in-Accept
returns-in-Accept c = on_ok_weaker c.push_accepted.result (λ f. f c.args.line.now (rw c.in-Accept.is at c.in-Some.ensures.words)
    (rw c.in-Accept.is at c.in-Some.ensures.named)) c.push_accepted.ensures

pub returns-in-Infer : goal.returns-in-Infer
returns-in-Infer c = on_ok_weaker c.push_inference.result (λ f. f c.args.line.now (rw c.in-Infer.is at c.in-Some.ensures.words)
    (rw c.in-Infer.is at c.in-Some.ensures.named)) c.push_inference.ensures

pub returns-in-Setting : goal.returns-in-Setting
returns-in-Setting c =
    on_ok_weaker c.push_setting_reply.result
    (of_setting c.args.tables.now c.args.line.now c.in-Setting.name.now (string_bytes c.args.out.now)
    (string_bytes c.push_setting_reply.new.out) (asks_setting c.args.line.now _ (rw c.in-Setting.is at c.in-Some.ensures.words)
    (rw c.in-Setting.is at c.in-Some.ensures.named)))
    c.push_setting_reply.ensures
