use Rattle.std.proofs.Common.{◌≡◌, ◌<◌, ℕ, false, length}
use Rattle.meta_unique.specs.Overlap.{is_shared}
use Rattle.meta_unique.proofs.unique_seq_table.shared_tail.Given as goal

abbrev pub invariant-loop-count : goal.invariant-loop-count
invariant-loop-count g l = (l.count < length l.values) × ((k : ℕ) → l.count < k → k < length l.values
    → is_shared g.T.PartialEq.eq l.table l.values k ≡ false)

abbrev pub decreases-loop-count : goal.decreases-loop-count
decreases-loop-count g l = l.count
