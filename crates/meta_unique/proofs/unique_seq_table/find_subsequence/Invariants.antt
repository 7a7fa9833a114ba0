use Rattle.std.proofs.Common.{◌≡◌, ◌<◌, ℕ, false}
use Rattle.meta_unique.specs.Overlap.{stands_at}
use Rattle.meta_unique.proofs.unique_seq_table.find_subsequence.Given as goal

abbrev pub invariant-loop-place : goal.invariant-loop-place
invariant-loop-place g l = (k : ℕ) → k < l.place → stands_at g.T.PartialEq.eq l.whole l.values k ≡ false
