use Rattle.std.proofs.Common.{◌≡◌, ◌<◌, ℕ, slice_get, Some}
use Rattle.meta_inst.specs.Operands.{HasOneType}
use Rattle.meta_inst.proofs.operands.is_polymorphic.Given as goal

-- each of the variables so far has a root of one type
abbrev pub invariant-loop-place : goal.invariant-loop-place
invariant-loop-place l = (i : ℕ) → i < l.place → (n : ℕ) → slice_get l.variables i ≡ Some n → HasOneType l.vars n
