use Rattle.std.proofs.Common.{◌≡◌, ◌<◌, ℕ, slice_get}
use Rattle.meta_setting_tables.proofs.descriptor.same_descriptors.Given as goal

-- so far the two have the same elements
abbrev pub invariant-loop-k : goal.invariant-loop-k
invariant-loop-k l = (j : ℕ) → j < l.k → slice_get l.one j ≡ slice_get l.other j
