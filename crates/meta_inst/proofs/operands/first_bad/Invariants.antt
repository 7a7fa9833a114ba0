use Rattle.std.proofs.Common.{◌<◌, ℕ}
use Rattle.meta_inst.specs.FoundControl.{IsBadAt}
use Rattle.meta_inst.proofs.operands.first_bad.Given as goal

-- none of the variables so far is badly derived
abbrev pub invariant-loop-place : goal.invariant-loop-place
invariant-loop-place l = (k : ℕ) → k < l.place → IsBadAt l.vars l.controls l.variables k → ⊥
