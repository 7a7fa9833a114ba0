use Rattle.std.proofs.Common.{◌≡◌, ◌<◌, ◌≤◌, ℕ, slice_get, Some}
use Rattle.meta_setting_tables.specs.WellFormed.{HoldsBooleansAlone}
use Rattle.meta_setting_tables.proofs.setting_bytes.are_good_defaults.Given as goal

-- in the bytes so far only bits of booleans are on
abbrev pub invariant-loop-byte : goal.invariant-loop-byte
invariant-loop-byte l = (k b : ℕ) → l.shape.own_bytes ≤ k → k < l.byte → slice_get l.defaults k ≡ Some b
    → HoldsBooleansAlone l.shape.own_bytes l.shape.booleans k b
