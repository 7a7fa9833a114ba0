use Rattle.std.proofs.Common.{rules}
use Rattle.meta_shared.proofs.ops_tables.rounding.Goals as goal

pub returns : goal.returns
returns c = search rules
