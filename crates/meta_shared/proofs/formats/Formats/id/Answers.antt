use Rattle.std.proofs.Common.{rules}
use Rattle.meta_shared.proofs.formats.Formats.id.Goals as goal

pub returns-in-Trap : goal.returns-in-Trap
returns-in-Trap c = search rules
