use Rattle.std.proofs.Common.{◌≡◌, ◌<◌, ◌≤◌, ℕ, slice_get, Some}
use Rattle.meta_inst.proofs.operands.stands_alone.Given as goal

-- none of the inputs so far, but for the one at the place, has its variable
abbrev pub invariant-loop-j : goal.invariant-loop-j
invariant-loop-j l = (i : ℕ) → i < l.j → (n : ℕ) → l.from ≤ i → slice_get l.variables i ≡ Some n
    → slice_get l.variables l.place ≡ Some n → i ≡ l.place
