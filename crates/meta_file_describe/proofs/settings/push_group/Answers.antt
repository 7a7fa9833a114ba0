use Rattle.meta_file_describe.proofs.Fitting.{group_fits}
use Rattle.meta_file_describe.proofs.settings.push_group.Goals as goal

pub returns-clause-fit : goal.returns-clause-fit
returns-clause-fit c = group_fits c.args.group.now c.loop-preset.invariant.fit
