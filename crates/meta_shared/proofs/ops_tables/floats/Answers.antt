use Rattle.std.proofs.Common.{rules}
use Rattle.meta_shared.proofs.ops_tables.floats.Goals as goal

pub returns : goal.returns
returns c = search rules
