use Rattle.std.proofs.Common.{ap, ◌∙◌, ◌++◌, string_bytes}
use Rattle.std.proofs.lemmas.Result.{on_ok_weaker}
use Rattle.meta_gen.specs.declared.reply.Reply.TheVariants.{Refuse, Results}
use Rattle.meta_query_lines.proofs.AnswerLemmas.{pushed}
use Rattle.meta_query_lines.proofs.results.push_inferred.Goals as goal

pub returns-in-Some-infer_results2 : goal.returns-in-Some-infer_results2
returns-in-Some-infer_results2 c =
    on_ok_weaker c.push_results.result
    (λ h. (
      Results h.0,
      (
        c.in-Some.opcode,
        rw c.name.ensures at c.in-Some.ensures.found,
        _,
        rw (c.control_number.ensures, c.second_number.ensures) at c.in-Some-infer_results2.ensures.given,
        h.1,
      ),
      h.2,
    ))
    c.push_results.ensures

pub returns-in-None : goal.returns-in-None
returns-in-None c =
    on_ok_weaker c.push_str-in-None.result
    (λ e. (
      Refuse,
      (
        c.in-Some.opcode,
        rw c.name.ensures at c.in-Some.ensures.found,
        rw (c.control_number.ensures, c.second_number.ensures) at c.in-None.ensures.none,
      ),
      e ∙ ap (λ text. string_bytes c.args.out.now ++ text) c.text-in-None.ensures,
    ))
    (pushed c.push_str-in-None.result (string_bytes c.args.out.now)
    (string_bytes c.push_str-in-None.new.self) c.text-in-None.result.now c.push_str-in-None.ensures.bytes)
