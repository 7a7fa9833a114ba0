use Rattle.std.proofs.Common.{refl}
use Rattle.meta_verify.proofs.CheckerLemmas.{nothing_seen}
use Rattle.meta_verify.proofs.checker.Checker.new.Goals as goal

pub returns : goal.returns
returns c = nothing_seen c.new.result _ refl c.new.ensures
