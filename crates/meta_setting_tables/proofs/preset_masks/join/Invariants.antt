use Rattle.std.proofs.Common.{◌≡◌, ℕ, ◌<◌, ◌≤◌, length, slice_get, Some}
use Rattle.std.specs.Int.RustNames.{bit_or}
use Rattle.meta_setting_tables.proofs.preset_masks.join.Given as goal

-- the bytes before k are joined, and the others are as they were
abbrev pub invariant-loop-k : goal.invariant-loop-k
invariant-loop-k l = record {
  size : length l.bytes ≡ length l.initial.bytes;
  joined : (j b m : ℕ) → j < l.k → slice_get l.initial.bytes j ≡ Some b → slice_get l.masks j ≡ Some m
      → slice_get l.bytes j ≡ Some (bit_or b m);
  rest : (j : ℕ) → l.k ≤ j → slice_get l.bytes j ≡ slice_get l.initial.bytes j;
}
