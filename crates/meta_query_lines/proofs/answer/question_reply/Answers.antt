use Rattle.std.proofs.Common.{◌≡◌, true, false, inr, refl, rules}
use Rattle.meta_query_lines.proofs.AnswerLemmas.{of_question}
use Rattle.meta_query_lines.proofs.FormLemmas.{accept_alone}
use Rattle.meta_query_lines.proofs.answer.question_reply.Goals as goal

pub returns-then-branch : goal.returns-then-branch
returns-then-branch c =
    let read : c.in_ok-read.field-0 ≡ true = search rules in
    λ line pieces named. of_question c.args.tables.now line _ _ (c.in_ok-read.ensures.found read line pieces named) c.accept_reply.ensures

pub returns-else-branch : goal.returns-else-branch
returns-else-branch c =
    let off : c.in_ok-read.field-0 ≡ false = search rules in
    λ line pieces named. inr (refl, accept_alone line _ _ _ _ pieces (c.in_ok-read.ensures.none off line pieces))
