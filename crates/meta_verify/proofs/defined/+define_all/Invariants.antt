use Rattle.std.proofs.Common.{length}
use Rattle.meta_verify.proofs.defined.+define_all.Given as goal

abbrev pub decreases-define_all : goal.decreases-define_all
decreases-define_all l = length l.results.now
