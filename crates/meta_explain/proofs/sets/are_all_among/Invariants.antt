use Rattle.std.proofs.Common.{◌<◌, ◌≤◌, ℕ, Contains}
use Rattle.meta_typevar.specs.Masks.{ContainsNumber}
use Rattle.meta_explain.proofs.sets.are_all_among.Given as goal

-- of the numbers so far, those that the masks contain are among the numbers
abbrev pub invariant-loop-number : goal.invariant-loop-number
invariant-loop-number l = (n : ℕ) → 116 ≤ n → n < l.number-counter → ContainsNumber l.masks n → Contains l.numbers n
