use Rattle.std.proofs.Common.{◌≡◌, None, replicate}
use Rattle.meta_unique.proofs.constant_hash.vacant_slots.Given as goal

abbrev pub invariant-loop-slot : goal.invariant-loop-slot
invariant-loop-slot g l = l.table.items ≡ replicate l._slot None
