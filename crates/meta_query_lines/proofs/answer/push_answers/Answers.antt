use Rattle.std.proofs.Common.{◌≡◌, string_bytes, refl, subst}
use Rattle.meta_lines.specs.Lines.{lines_of}
use Rattle.meta_query_lines.specs.Answer.{IsTableReply, AreWrittenAnswers}
use Rattle.meta_query_lines.proofs.AnswerLemmas.{more_answers, all_answers}
use Rattle.meta_query_lines.proofs.answer.push_answers.Goals as goal

pub loop-line-init : goal.loop-line-init
loop-line-init c =
    let all : c.into_iter-line-iterator.result ≡ lines_of c.args.input.now = cc in
    λ rest answers. (rest, subst (λ lines. AreWrittenAnswers (IsTableReply c.args.tables.now) lines rest) all answers, refl)

pub loop-line-preserved : goal.loop-line-preserved
loop-line-preserved c =
    more_answers (IsTableReply c.args.tables.now) (lines_of c.args.input.now) c.loop-line.line-iterator
    c.next.new.self c.in-Some.line.now (string_bytes c.args.out.now) (string_bytes c.loop-line.out) (string_bytes c.push_answer.new.out)
    c.in-Some.ensures.steps c.in_ok-push_answer.ensures c.loop-line.invariant

pub returns : goal.returns
returns c =
    all_answers (IsTableReply c.args.tables.now) (lines_of c.args.input.now) c.loop-line.line-iterator
    (string_bytes c.args.out.now) (string_bytes c.loop-line.out) c.in-None.ensures.steps.0 c.loop-line.invariant
