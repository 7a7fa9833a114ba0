use Rattle.std.proofs.Common.{rules}
use Rattle.meta_shared.proofs.ops_tables.casts.Goals as goal

pub returns : goal.returns
returns c = search rules
