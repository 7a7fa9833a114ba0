use Rattle.std.proofs.Common.{rules}
use Rattle.meta_query.proofs.counting.is_found.Goals as goal

pub returns-in-Some : goal.returns-in-Some
returns-in-Some c = search rules
