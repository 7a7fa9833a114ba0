use Rattle.std.proofs.Common.{rules}
use Rattle.meta_types.proofs.vector.DynamicVectorType.number.Goals as goal

pub returns : goal.returns
returns c = search rules
