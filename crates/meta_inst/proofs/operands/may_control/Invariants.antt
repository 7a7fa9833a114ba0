use Rattle.std.proofs.Common.{◌≡◌, ◌<◌, ℕ, slice_get, Some}
use Rattle.meta_inst.specs.Operands.{LetsControl}
use Rattle.meta_inst.proofs.operands.may_control.Given as goal

-- each of the variables so far lets v control beside the second control
abbrev pub invariant-loop-place : goal.invariant-loop-place
invariant-loop-place l = (i n : ℕ) → i < l.place → slice_get l.operands.variables i ≡ Some n
    → LetsControl l.vars l.controls l.operands.variables l.operands.result_count i n
