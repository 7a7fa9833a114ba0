use Rattle.std.proofs.Common.{◌≡◌, ◌+◌, ◌-◌, length}
use Rattle.meta_unique.specs.Probing.{IsPassed}
use Rattle.meta_unique.proofs.Walks.{Walked}
use Rattle.meta_unique.proofs.probing.probe_counted.Given as goal

abbrev pub invariant-walk : goal.invariant-walk
invariant-walk g l = Walked l.slots l.start l.slot l.passed (IsPassed (goal.M-post g l.matches) l.slots)
    × (l.steps ≡ l.initial.steps + l.passed)

abbrev pub decreases-walk : goal.decreases-walk
decreases-walk g l = length l.slots - l.passed
