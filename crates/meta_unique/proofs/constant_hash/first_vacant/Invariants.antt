use Rattle.std.proofs.Common.{◌-◌, length}
use Rattle.meta_unique.specs.Probing.{IsTaken}
use Rattle.meta_unique.proofs.Walks.{Walked}
use Rattle.meta_unique.proofs.constant_hash.first_vacant.Given as goal

abbrev pub invariant-walk : goal.invariant-walk
invariant-walk g l = Walked l.slots l.start l.slot l.passed (IsTaken l.slots)

abbrev pub decreases-walk : goal.decreases-walk
decreases-walk g l = length l.slots - l.passed
