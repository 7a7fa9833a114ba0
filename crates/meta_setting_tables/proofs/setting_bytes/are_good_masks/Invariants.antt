use Rattle.std.proofs.Common.{◌≡◌, ◌<◌, ◌%◌, ℕ, slice_get, Some}
use Rattle.meta_setting_tables.specs.WellFormed.{HoldsBooleansAlone}
use Rattle.meta_setting_tables.proofs.setting_bytes.are_good_masks.Given as goal

-- in the masks so far only bits of booleans are on
abbrev pub invariant-loop-at : goal.invariant-loop-at
invariant-loop-at l = (k m : ℕ) → k < l.at → slice_get l.masks k ≡ Some m
    → HoldsBooleansAlone l.shape.own_bytes l.shape.booleans (k % l.shape.bytes) m
