use Rattle.meta_run.specs.declared.ending.Ending.TheVariants.{Rejected}
use Rattle.meta_run.proofs.Runs as lemma
use Rattle.meta_run.proofs.running.run_answerer.Goals as goal

pub returns-clause-headline : goal.returns-clause-headline
returns-clause-headline g c =
    lemma.headline g.S.Source.left g.S.Source.faults g.K.Sink.taken g.K.Sink.faults _ _ _ _ _
    (g.A.Answerer.texts c.args.answerer.now) (g.A.Answerer.reads c.args.answerer.now)
    (c.one_first_fault.ensures.valid c.args.declarations.now) _ c.attempt.ensures.did

pub returns-clause-refuses : goal.returns-clause-refuses
returns-clause-refuses g c =
    lemma.refuses g.S.Source.left g.S.Source.faults g.K.Sink.taken g.K.Sink.faults _ _ _ _ _
    (g.A.Answerer.texts c.args.answerer.now) (g.A.Answerer.reads c.args.answerer.now)
    (c.one_first_fault.ensures.same c.args.declarations.now)
    (c.one_first_fault.ensures.valid c.args.declarations.now) _ c.attempt.ensures.did

pub returns-clause-complete : goal.returns-clause-complete
returns-clause-complete g c =
    lemma.complete g.S.Source.left g.S.Source.faults g.K.Sink.taken g.K.Sink.faults _ _ _ _ _
    (g.A.Answerer.texts c.args.answerer.now) (g.A.Answerer.reads c.args.answerer.now)
    (c.one_first_fault.ensures.valid c.args.declarations.now) _ c.attempt.ensures.did

pub returns-clause-rejected : goal.returns-clause-rejected
returns-clause-rejected g c = λ e.
    lemma.at_ending g.S.Source.left g.S.Source.faults g.K.Sink.taken g.K.Sink.faults _ _ _ _ _
    (g.A.Answerer.texts c.args.answerer.now) (g.A.Answerer.reads c.args.answerer.now)
    _ Rejected e c.attempt.ensures.did
