use Rattle.std.proofs.Common.{⊎_elim, sym, ◌∙◌}
use Rattle.meta_command_line.proofs.First.{none_more, none_at_all}
use Rattle.meta_command_line.proofs.Numbers.{no_truth}
use Rattle.meta_command_line.proofs.asked.Asked.among.Goals as goal

pub loop-word-preserved : goal.loop-word-preserved
loop-word-preserved c = none_more c.args.words.now c.loop-word.word-index c.word-item.result c.loop-word-test.true c.word-item.is
    (λ h. ⊎_elim (λ l. no_truth (sym c.if-is_text.false ∙ c.is_text.ensures.1 l))
    (λ s. no_truth (sym c.if-is_text-2.false ∙ c.is_text-else-is_text.ensures.1 s)) h)
    (λ v. ⊎_elim (λ l. no_truth (sym c.if-is_text-3.false ∙ c.is_text-in-loop-word.ensures.1 l))
    (λ s. no_truth (sym c.if-is_text-4.false ∙ c.is_text-else-is_text-3.ensures.1 s)) v) c.loop-word.invariant

pub returns : goal.returns
returns c = none_at_all c.args.words.now c.loop-word.word-index c.loop-word-test.false c.loop-word.invariant
