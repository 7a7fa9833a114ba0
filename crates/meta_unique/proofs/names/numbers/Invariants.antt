use Rattle.std.proofs.Common.{◌≡◌}
use Rattle.meta_unique.specs.NameSlots.{numbers_from}
use Rattle.meta_unique.proofs.names.numbers.Given as goal

abbrev pub invariant-loop-place : goal.invariant-loop-place
invariant-loop-place l = l.numbers.items ≡ numbers_from l.first l.place
