use Rattle.std.proofs.Common.{◌≡◌, ◌↔◌, ◌<◌, ◌≤◌, ℕ, Some}
use Rattle.meta_inst.specs.Tables.{ControlNumberFits}
use Rattle.meta_audit.proofs.controls.same_control.Given as goal

-- so far the same numbers fit
abbrev pub invariant-loop-n : goal.invariant-loop-n
invariant-loop-n l = (m : ℕ) → 112 ≤ m → m < l.n
    → (ControlNumberFits l.own l.offset (Some m) ↔ ControlNumberFits l.other l.other_offset (Some m))
