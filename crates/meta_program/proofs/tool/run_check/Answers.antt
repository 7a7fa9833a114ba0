use Rattle.meta_program.proofs.tool.run_check.Goals as goal

pub returns : goal.returns
returns g c = c.run_answerer.ensures.ran
