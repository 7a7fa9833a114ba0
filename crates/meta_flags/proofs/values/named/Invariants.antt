use Rattle.std.proofs.Common.{◌≡◌, ◌<◌, ℕ, slice_get, Some}
use Rattle.meta_flags.proofs.values.named.Given as goal

-- none of the texts so far is the name
abbrev pub invariant-loop-text : goal.invariant-loop-text
invariant-loop-text l = (j : ℕ) → j < l.text-index → slice_get l.texts j ≡ Some l.name → ⊥
