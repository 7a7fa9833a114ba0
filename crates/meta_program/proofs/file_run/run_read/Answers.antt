use Rattle.std.proofs.Common.{refl}
use Rattle.meta_program.proofs.FileRuns.{did_read}
use Rattle.meta_program.proofs.file_run.run_read.Goals as goal

pub returns-in-Ok-clause-did : goal.returns-in-Ok-clause-did
returns-in-Ok-clause-did g c =
    did_read g.F.Source.left g.F.Source.faults g.S.Source.left g.S.Source.faults g.K.Sink.taken g.K.Sink.faults
    _ _ _ _ _ _ _ _ _ (c.args.tool, refl) _ c.deref.ensures.value (record {
      read = c.in-Ok.ensures.ok;
      end = c.in-Ok.ensures.end;
      within = c.in-Ok.ensures.within;
    }) _ c.run_over.ensures
