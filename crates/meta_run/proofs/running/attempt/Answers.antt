use Rattle.std.proofs.Common.{subst}
use Rattle.meta_run.specs.Run.{Ran}
use Rattle.meta_run.proofs.Runs as lemma
use Rattle.meta_run.proofs.running.attempt.Goals as goal

pub returns-in-Ok : goal.returns-in-Ok
returns-in-Ok g c =
    subst (λ d. Ran g.S.Source.left g.S.Source.faults g.K.Sink.taken g.K.Sink.faults d c.args.source.now c.answer.new.source
    c.args.sink.now c.answer.new.sink (g.A.Answerer.reads c.args.answerer.now) (g.A.Answerer.texts c.args.answerer.now) c.answer.result)
    c.in-Ok.ensures.declarations c.answer.ensures

pub returns-in-Err : goal.returns-in-Err
returns-in-Err g c =
    lemma.ran_refused g.S.Source.left g.S.Source.faults g.K.Sink.taken g.K.Sink.faults c.args.declarations.now c.args.source.now
    c.args.sink.now c.refuse.new.sink (g.A.Answerer.reads c.args.answerer.now) (g.A.Answerer.texts c.args.answerer.now)
    _ c.in-Err.ensures.refused c.refuse.result c.refuse.ensures.refuses c.refuse.ensures.counted
