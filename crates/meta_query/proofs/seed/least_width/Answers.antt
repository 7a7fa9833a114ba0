use Rattle.std.proofs.Common.{rules}
use Rattle.meta_query.proofs.seed.least_width.Goals as goal

pub returns-in-1 : goal.returns-in-1
returns-in-1 c = search rules
