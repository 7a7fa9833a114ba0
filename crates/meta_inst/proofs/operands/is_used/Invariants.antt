use Rattle.std.proofs.Common.{◌≡◌, ◌≢◌, ◌<◌, ℕ, slice_get, Some}
use Rattle.meta_typevar.specs.Registry.{variable_at}
use Rattle.meta_inst.proofs.operands.is_used.Given as goal

-- none of the variables so far has the root of s
abbrev pub invariant-loop-place : goal.invariant-loop-place
invariant-loop-place l = (i : ℕ) → i < l.place → (n : ℕ) → slice_get l.variables i ≡ Some n → (variable_at l.vars n).root ≢ l.root
