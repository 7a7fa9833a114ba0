use Rattle.std.proofs.Common.{inr, inl, refl}
use Rattle.meta_program.specs.Tool.{AreToolWords}
use Rattle.meta_program.specs.declared.tool.Tool.{Tool}
use Rattle.meta_program.proofs.FileRuns.{did_for}
use Rattle.meta_program.proofs.Loaded.{gave_nothing}
use Rattle.meta_program.proofs.file_run.attempt.Goals as goal

pub returns-in-Some-clause-did : goal.returns-in-Some-clause-did
returns-in-Some-clause-did g c =
    did_for g.F.Source.left g.F.Source.faults g.S.Source.left g.S.Source.faults g.K.Sink.taken g.K.Sink.faults
    (λ (tool : Tool). AreToolWords tool c.args.words.now) _ _ _ _ _ _ _ c.in-Some.tool c.in-Some.ensures.some _ c.run_read.ensures.did

pub returns-in-None-clause-did : goal.returns-in-None-clause-did
returns-in-None-clause-did g c = inr (inl (λ asks. c.in-None.ensures.none asks.0 asks.1, refl, refl, (refl, refl)))

pub returns-in-None-clause-file_within : goal.returns-in-None-clause-file_within
returns-in-None-clause-file_within g c = λ other. gave_nothing _
