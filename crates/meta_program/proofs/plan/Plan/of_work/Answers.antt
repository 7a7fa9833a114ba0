use Rattle.std.proofs.Common.{subst}
use Rattle.meta_program.specs.Over.{IsOver}
use Rattle.meta_program.proofs.plan.Plan.of_work.Goals as goal

pub over_shared-requires : goal.over_shared-requires
over_shared-requires c =
    let over = subst (IsOver c.args.words.now) c.in-Shared.is c.requires.over in
    record { work = c.requires.work; same = over.0; over = over.1 }

pub over_file-requires : goal.over_file-requires
over_file-requires c = record { work = c.requires.work; over = subst (IsOver c.args.words.now) c.in-File.is c.requires.over }
