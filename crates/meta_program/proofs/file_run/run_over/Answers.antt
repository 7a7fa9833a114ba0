use Rattle.std.proofs.Common.{inl, refl}
use Rattle.meta_program.proofs.FileRuns.{ran_text}
use Rattle.meta_program.proofs.file_run.run_over.Goals as goal

pub returns-in-Ok : goal.returns-in-Ok
returns-in-Ok g c = inl (ran_text c.args.tool refl _ c.in-Ok.ensures.declared c.in-Ok.ensures.valid _ c.run_answerer.ensures.ran)
