use Rattle.meta_run.proofs.Programs as lemma
use Rattle.meta_flags.specs.FlagsOutput.{IsFlagsOutput}
use Rattle.meta_flags.proofs.serving.flags.Goals as goal

pub returns-clause-headline : goal.returns-clause-headline
returns-clause-headline g c none =
    lemma.output (λ w. IsFlagsOutput) c.run_words.ensures lemma.no_other (c.one_first_fault.ensures.valid _) tt none

pub returns-clause-runs : goal.returns-clause-runs
returns-clause-runs g c =
    lemma.runs c.run_words.ensures lemma.no_other (c.one_first_fault.ensures.valid _) (c.one_first_fault.ensures.same _)

pub returns-clause-never_rejected : goal.returns-clause-never_rejected
returns-clause-never_rejected g c = lemma.never_rejects c.run_words.ensures (λ w input text h. h)
