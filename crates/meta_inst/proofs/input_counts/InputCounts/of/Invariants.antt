use Rattle.std.proofs.Common.{◌≡◌, ◌==◌, ℕ, unwrap_or, take}
use Rattle.std.specs.List.{count_by}
use Rattle.std.specs.Ordering.{nat_cmp}
use Rattle.std.specs.BTreeMap.{get}
use Rattle.meta_inst.proofs.input_counts.InputCounts.of.Given as goal

-- the inputs so far are counted
abbrev pub invariant-loop-tv : goal.invariant-loop-tv
invariant-loop-tv l = (n : ℕ) → unwrap_or (get nat_cmp l.counts n) 0 ≡ count_by (λ m. m == n) (take l.tv-index l.inputs)
