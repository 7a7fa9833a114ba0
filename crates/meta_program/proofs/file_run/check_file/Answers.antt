use Rattle.meta_program.proofs.FileChecks as lemma
use Rattle.meta_program.proofs.file_run.check_file.Goals as goal

pub returns-clause-headline : goal.returns-clause-headline
returns-clause-headline g c =
    lemma.headline g.F.Source.left g.F.Source.faults g.S.Source.left g.S.Source.faults g.K.Sink.taken g.K.Sink.faults _ _ _ _ _ _ _ _
    (λ d e. c.one_first_fault.ensures.valid d e) c.a_text_declares_one_thing.ensures.same
    c.a_text_declares_one_thing.ensures.refused _ _ c.check_read.ensures.did

pub returns-clause-runs : goal.returns-clause-runs
returns-clause-runs g c =
    lemma.runs g.F.Source.left g.F.Source.faults g.S.Source.left g.S.Source.faults g.K.Sink.taken g.K.Sink.faults _ _ _ _ _ _ _ _
    (λ d e. c.one_first_fault.ensures.valid d e) c.a_text_declares_one_thing.ensures.same
    c.a_text_declares_one_thing.ensures.refused _ _ c.check_read.ensures.did c.check_read.ensures.file_within
    c.check_read.ensures.file_else_no_fault c.check_read.ensures.file_counted
