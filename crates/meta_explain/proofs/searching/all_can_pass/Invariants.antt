use Rattle.std.proofs.Common.{◌≡◌, ◌<◌, ◌+◌, ℕ, slice_get, Option, Some}
use Rattle.meta_explain.specs.Parts.{numbers_of}
use Rattle.meta_explain.specs.Search.{CanPass}
use Rattle.meta_explain.proofs.searching.all_can_pass.Given as goal

-- what is asked for so far can pass
abbrev pub invariant-loop-k : goal.invariant-loop-k
invariant-loop-k l = (j : ℕ) (o : Option ℕ) → j < l.k → slice_get l.asked j ≡ Some o
    → CanPass l.tables (numbers_of l.controls) (l.offset + j) o
