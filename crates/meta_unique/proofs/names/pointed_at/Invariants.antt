use Rattle.std.proofs.Common.{◌≡◌, map, take}
use Rattle.std.specs.Option.{option_copied}
use Rattle.meta_unique.proofs.names.pointed_at.Given as goal

abbrev pub invariant-loop-slot : goal.invariant-loop-slot
invariant-loop-slot l = l.copies.items ≡ map option_copied (take l.slot-index l.slots)
