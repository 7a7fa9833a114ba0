use Rattle.meta_build.proofs.OneBuilt.{one_of_declared}
use Rattle.meta_build.proofs.laws.one_built.Goals as goal

pub returns : goal.returns
returns c = one_of_declared
