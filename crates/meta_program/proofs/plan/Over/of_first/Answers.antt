use Rattle.meta_program.proofs.NoFile.{file_with}
use Rattle.meta_program.proofs.plan.Over.of_first.Goals as goal

pub returns-in-Some : goal.returns-in-Some
returns-in-Some c =
    file_with c.args.words.now c.args.first.now c.args.after.now c.requires c.in-Some.path.now c.in-Some.ensures.some
