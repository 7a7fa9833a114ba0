use Rattle.meta_unique.proofs.ProbeOrder.{visits}
use Rattle.meta_unique.proofs.probing.visits_each.Goals as goal

pub returns : goal.returns
returns c = visits
