use Rattle.std.proofs.Common.{◌≡◌, ℕ, ◌<◌, All, length, take, slice_get, Some}
use Rattle.meta_setting_tables.specs.DefaultBytes.{joined_at}
use Rattle.meta_setting_tables.proofs.default_bytes.join_defaults.Given as goal

-- the defaults of the settings so far are joined, in bytes
abbrev pub invariant-loop-setting : goal.invariant-loop-setting
invariant-loop-setting l = record {
  fits : All (λ b. b < 256) l.bytes;
  size : length l.bytes ≡ length l.initial.bytes;
  joined : (byte : ℕ) → byte < length l.initial.bytes → slice_get l.bytes byte ≡ Some (joined_at byte (take l.setting-index l.settings));
}
