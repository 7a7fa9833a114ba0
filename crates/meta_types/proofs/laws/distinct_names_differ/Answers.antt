use Rattle.meta_types.proofs.SharedNames.{distinct_differ}
use Rattle.meta_types.proofs.laws.distinct_names_differ.Goals as goal

pub returns : goal.returns
returns c = distinct_differ
