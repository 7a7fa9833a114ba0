use Rattle.meta_program.specs.Tool.{AreToolWords}
use Rattle.meta_program.specs.declared.tool.Tool.{Tool}
use Rattle.meta_program.proofs.FileRuns as lemma
use Rattle.meta_program.proofs.file_run.run_file.Goals as goal

pub returns-clause-headline : goal.returns-clause-headline
returns-clause-headline g c =
    lemma.headline g.F.Source.left g.F.Source.faults g.S.Source.left g.S.Source.faults g.K.Sink.taken g.K.Sink.faults
    (λ (tool : Tool). AreToolWords tool c.args.words.now) _ _ _ _ _ _ _
    (λ d e. c.one_first_fault.ensures.valid d e) (λ d e f. c.one_first_fault.ensures.same d e f) (λ t u. c.one_tool.ensures t u _)
    c.a_text_declares_one_thing.ensures.same c.a_text_declares_one_thing.ensures.refused _ c.attempt.ensures.did

pub returns-clause-runs : goal.returns-clause-runs
returns-clause-runs g c =
    lemma.runs g.F.Source.left g.F.Source.faults g.S.Source.left g.S.Source.faults g.K.Sink.taken g.K.Sink.faults
    (λ (tool : Tool). AreToolWords tool c.args.words.now) _ _ _ _ _ _ _
    (λ d e. c.one_first_fault.ensures.valid d e) (λ d e f. c.one_first_fault.ensures.same d e f) (λ t u. c.one_tool.ensures t u _)
    c.a_text_declares_one_thing.ensures.same c.a_text_declares_one_thing.ensures.refused _ c.attempt.ensures.did
    c.attempt.ensures.file_within c.attempt.ensures.file_else_no_fault c.attempt.ensures.file_counted
