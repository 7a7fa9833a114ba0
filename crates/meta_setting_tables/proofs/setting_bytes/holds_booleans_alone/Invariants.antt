use Rattle.std.proofs.Common.{◌≡◌, ◌<◌, ℕ}
use Rattle.std.specs.Int.{bit_at}
use Rattle.meta_setting_tables.specs.WellFormed.{IsBooleanBit}
use Rattle.meta_setting_tables.proofs.setting_bytes.holds_booleans_alone.Given as goal

-- of the bits so far only those of booleans are on
abbrev pub invariant-loop-bit : goal.invariant-loop-bit
invariant-loop-bit l = (k : ℕ) → k < l.bit → bit_at l.value k ≡ 1 → IsBooleanBit l.shape.own_bytes l.shape.booleans l.byte k
