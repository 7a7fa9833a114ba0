use Rattle.std.proofs.Common.{◌<◌, ◌≤◌, ℕ}
use Rattle.meta_inst.specs.Tables.{SetContains}
use Rattle.meta_explain.proofs.accepted.has_member.Given as goal

-- the type set has none of the numbers so far
abbrev pub invariant-loop-number : goal.invariant-loop-number
invariant-loop-number l = (n : ℕ) → 116 ≤ n → n < l.number → SetContains l.tables l.set n → ⊥
