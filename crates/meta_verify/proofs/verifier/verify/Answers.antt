use Rattle.meta_run.proofs.Programs as lemma
use Rattle.meta_verify.proofs.Runs.{headline}
use Rattle.meta_verify.proofs.verifier.verify.Goals as goal

pub returns-clause-headline : goal.returns-clause-headline
returns-clause-headline g c = headline c.check.ensures (c.one_first_fault.ensures.valid _)

pub returns-clause-runs : goal.returns-clause-runs
returns-clause-runs g c = lemma.runs c.check.ensures lemma.no_other (c.one_first_fault.ensures.valid _) (c.one_first_fault.ensures.same _)
