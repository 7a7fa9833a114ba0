use Rattle.std.proofs.Common.{rules}
use Rattle.meta_unique.proofs.constant_hash.simple_hash.Goals as goal

pub returns : goal.returns
returns c = search rules
