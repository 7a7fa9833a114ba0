use Rattle.meta_types.proofs.Names.{one_name}
use Rattle.meta_types.proofs.laws.names_differ.Goals as goal

pub returns : goal.returns
returns c = one_name
