use Rattle.std.proofs.Common.{rules}
use Rattle.meta_gen.proofs.tables.Tables.same.Goals as goal

pub returns-then-same : goal.returns-then-same
returns-then-same c = search rules
