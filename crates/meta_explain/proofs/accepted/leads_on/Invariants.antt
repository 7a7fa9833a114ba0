use Rattle.std.proofs.Common.{◌<◌, ◌≤◌, ℕ}
use Rattle.meta_types.specs.Function.{StepsNumbers}
use Rattle.meta_types.specs.DerivedFunc.{function_of}
use Rattle.meta_explain.proofs.accepted.leads_on.Given as goal

-- the function leads to none of the numbers so far
abbrev pub invariant-loop-other : goal.invariant-loop-other
invariant-loop-other l = (n : ℕ) → 116 ≤ n → n < l.other → StepsNumbers (function_of l.derived_func) l.number n → ⊥
