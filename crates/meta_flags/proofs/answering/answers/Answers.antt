use Rattle.std.proofs.Common.{Option, string_bytes, ◌∙◌, subst}
use Rattle.meta_lines.specs.Lines.{lines_of}
use Rattle.meta_flags.specs.Served.{Served}
use Rattle.meta_flags.specs.FlagAnswers.{IsAnswered}
use Rattle.meta_flags.specs.Held.{served_by, state_of}
use Rattle.meta_flags.proofs.AnswerLemmas.{more_answers, all_answers}
use Rattle.meta_flags.proofs.answering.answers.Goals as goal

pub loop-line-preserved : goal.loop-line-preserved
loop-line-preserved c =
    let same = c.loop-line.invariant.0 in
    let h = c.in_ok-push_answer.ensures.answered in
    let answered = subst (λ (g : Option Served). IsAnswered g c.in-Some.line.now (state_of c.loop-line.flags)
    (state_of c.push_answer.new.flags) h.0) same h.1 in (
      c.push_answer.ensures.served ∙ same,
      more_answers (served_by c.args.flags) (state_of c.args.flags)
          (lines_of c.args.input.now) c.loop-line.line-iterator c.next.new.self _ _ c.in-Some.line.now (string_bytes c.loop-line.out)
          (string_bytes c.push_answer.new.out) c.in-Some.ensures.steps (h.0, answered, h.2) c.loop-line.invariant.1,
    )

pub returns : goal.returns
returns c = all_answers (served_by c.args.flags) (state_of c.args.flags) (lines_of c.args.input.now) c.loop-line.line-iterator
    (state_of c.loop-line.flags) (string_bytes c.loop-line.out) c.in-None.ensures.steps.0 c.loop-line.invariant.1
