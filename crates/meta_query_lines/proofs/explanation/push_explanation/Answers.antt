use Rattle.std.proofs.Common.{string_bytes}
use Rattle.std.proofs.lemmas.Result.{on_ok_weaker}
use Rattle.meta_query_lines.proofs.ExplanationLemmas.{of_reply, of_setting_reply}
use Rattle.meta_query_lines.proofs.FormLemmas.{infer_accepts_nothing}
use Rattle.meta_query_lines.proofs.QueryLemmas.{asks_setting}
use Rattle.meta_query_lines.proofs.RequestLemmas.{not_infer}
use Rattle.meta_query_lines.proofs.explanation.push_explanation.Goals as goal

pub returns-in_default : goal.returns-in_default
returns-in_default c = on_ok_weaker c.push_request.result (λ f. f c.in_default.ensures.none) c.push_request.ensures

pub returns-in-Accept : goal.returns-in-Accept
returns-in-Accept c = on_ok_weaker c.push_accepted.result (λ f. f c.args.line.now (rw c.in-Accept.is at c.in-Some.ensures.words)
    (rw c.in-Accept.is at c.in-Some.ensures.named)) c.push_accepted.ensures

pub returns-in-Infer : goal.returns-in-Infer
returns-in-Infer c =
    let words = rw c.in-Infer.is at c.in-Some.ensures.words in
    on_ok_weaker c.push_inference.result (λ f. of_reply c.args.tables.now _ c.args.line.now (string_bytes c.args.out.now)
    (string_bytes c.push_inference.new.out) (infer_accepts_nothing c.args.line.now _ _ words) (not_infer c.args.line.now _ words)
    (f c.args.line.now words (rw c.in-Infer.is at c.in-Some.ensures.named))) c.push_inference.ensures

pub returns-in-Setting : goal.returns-in-Setting
returns-in-Setting c =
    on_ok_weaker c.push_setting_reply.result
    (of_setting_reply c.args.tables.now _ c.args.line.now (string_bytes c.args.out.now) (string_bytes c.push_setting_reply.new.out)
    c.in-Setting.name.now (asks_setting c.args.line.now _ (rw c.in-Setting.is at c.in-Some.ensures.words)
    (rw c.in-Setting.is at c.in-Some.ensures.named)))
    c.push_setting_reply.ensures
