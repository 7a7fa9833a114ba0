use Rattle.meta_typevar.proofs.EqualSets.{one_set}
use Rattle.meta_typevar.proofs.laws.equal_sets.Goals as goal

pub returns : goal.returns
returns c = one_set
