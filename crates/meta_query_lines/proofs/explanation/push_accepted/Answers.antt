use Rattle.std.proofs.Common.{◌≡◌, true, false, string_bytes, rules}
use Rattle.std.proofs.lemmas.Result.{on_ok_weaker}
use Rattle.meta_query_lines.proofs.ExplanationLemmas.{of_question, of_nothing}
use Rattle.meta_query_lines.proofs.FormLemmas.{accept_alone}
use Rattle.meta_query_lines.proofs.RequestLemmas.{not_accept}
use Rattle.meta_query_lines.proofs.explanation.push_accepted.Goals as goal

pub returns-then-branch : goal.returns-then-branch
returns-then-branch c =
    let read : c.in_ok-read.field-0 ≡ true = search rules in
    on_ok_weaker c.push_why.result
    (λ h line pieces named. of_question c.args.tables.now _ line (string_bytes c.args.out.now) (string_bytes c.push_why.new.out) _
    (c.in_ok-read.ensures.found read line pieces named) h) c.push_why.ensures

pub returns-else-branch : goal.returns-else-branch
returns-else-branch c =
    let off : c.in_ok-read.field-0 ≡ false = search rules in
    on_ok_weaker c.push_text.result
    (λ e line pieces named. of_nothing c.args.tables.now _ line (string_bytes c.args.out.now) (string_bytes c.push_text.new.out)
    (accept_alone line _ _ _ _ pieces (c.in_ok-read.ensures.none off line pieces)) (not_accept line _ pieces) e) c.push_text.ensures
