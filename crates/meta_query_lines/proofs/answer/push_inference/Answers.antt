use Rattle.std.proofs.Common.{◌++◌, inr, refl, ap, ◌∙◌, string_bytes}
use Rattle.std.proofs.lemmas.Result.{on_ok_weaker}
use Rattle.meta_gen.specs.declared.reply.Reply.TheVariants.{Bad}
use Rattle.meta_query_lines.proofs.AnswerLemmas.{of_inference, pushed}
use Rattle.meta_query_lines.proofs.FormLemmas.{infer_alone}
use Rattle.meta_query_lines.proofs.answer.push_inference.Goals as goal

pub returns-in-Some : goal.returns-in-Some
returns-in-Some c =
    on_ok_weaker c.push_inferred.result
    (λ h line pieces named. of_inference c.args.tables.now line c.in-Some.asked (string_bytes c.args.out.now)
    (string_bytes c.push_inferred.new.out) (c.in-Some.ensures.found line pieces named) h)
    c.push_inferred.ensures

pub returns-in-None : goal.returns-in-None
returns-in-None c =
    on_ok_weaker c.push_str.result
    (λ e line pieces named. (
      Bad,
      inr (refl, infer_alone line _ _ pieces (c.in-None.ensures.none line pieces)),
      e ∙ ap (λ text. string_bytes c.args.out.now ++ text) c.text.ensures,
    ))
    (pushed c.push_str.result (string_bytes c.args.out.now) (string_bytes c.push_str.new.self) c.text.result.now c.push_str.ensures.bytes)
