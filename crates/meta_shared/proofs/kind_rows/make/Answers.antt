use Rattle.std.proofs.Common.{rules}
use Rattle.meta_shared.proofs.kind_rows.make.Goals as goal

pub returns : goal.returns
returns c = search rules
