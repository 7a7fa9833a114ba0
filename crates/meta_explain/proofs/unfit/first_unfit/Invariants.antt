use Rattle.std.proofs.Common.{◌≡◌, ◌<◌, ◌+◌, ℕ, slice_get, Some}
use Rattle.meta_inst.specs.Tables.{PassesAt}
use Rattle.meta_explain.specs.Parts.{numbers_of}
use Rattle.meta_explain.proofs.unfit.first_unfit.Given as goal

-- the numbers so far pass
abbrev pub invariant-loop-k : goal.invariant-loop-k
invariant-loop-k l = (j n : ℕ) → j < l.k → slice_get l.numbers j ≡ Some n → PassesAt l.tables (numbers_of l.controls) (l.offset + j) n
