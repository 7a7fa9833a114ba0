use Rattle.meta_run.proofs.Programs as lemma
use Rattle.meta_program.proofs.tool.run_words.Goals as goal

pub returns : goal.returns
returns g c = record {
  runs = lemma.runs c.attempt.ensures (λ t u. c.one_tool.ensures t u _) (c.one_first_fault.ensures.valid _)
      (c.one_first_fault.ensures.same _);
}
