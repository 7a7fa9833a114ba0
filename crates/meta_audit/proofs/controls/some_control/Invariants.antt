use Rattle.std.proofs.Common.{◌≡◌, ◌<◌, ◌≤◌, ℕ, Some}
use Rattle.meta_inst.specs.Tables.{ControlNumberFits}
use Rattle.meta_audit.proofs.controls.some_control.Given as goal

-- so far no number fits
abbrev pub invariant-loop-n : goal.invariant-loop-n
invariant-loop-n l = (m : ℕ) → 112 ≤ m → m < l.n → ControlNumberFits l.tables l.offset (Some m) → ⊥
