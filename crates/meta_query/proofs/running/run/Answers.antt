use Rattle.meta_run.proofs.Programs as lemma
use Rattle.meta_query.proofs.Runs.{one_command, headline, texts}
use Rattle.meta_query.proofs.running.run.Goals as goal

pub returns-clause-headline : goal.returns-clause-headline
returns-clause-headline g c = headline c.run_words.ensures (c.one_first_fault.ensures.valid _)

pub returns-clause-texts : goal.returns-clause-texts
returns-clause-texts g c = texts c.run_words.ensures (c.one_first_fault.ensures.valid _)

pub returns-clause-runs : goal.returns-clause-runs
returns-clause-runs g c = lemma.runs c.run_words.ensures one_command (c.one_first_fault.ensures.valid _) (c.one_first_fault.ensures.same _)

pub returns-clause-never_rejected : goal.returns-clause-never_rejected
returns-clause-never_rejected g c = lemma.never_rejects c.run_words.ensures (λ w input text h. h)
