use Rattle.std.proofs.Common.{rules}
use Rattle.meta_run.proofs.refusing.refusal.Goals as goal

pub returns : goal.returns
returns c = search rules
