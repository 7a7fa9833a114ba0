-- The masks of the presets of a group, and what a preset does to setting bytes.
--     ArePresetMasks g masks        the masks of the presets of the group
--     AreJoined old masks new       bytes joined with masks
--     TurnsOnOnly g p old new       the bits of what the preset turns on are on, and no other bit changed
use Rattle.std.specs.Prelude.{ℕ, ◌≡◌, ◌↔◌, ◌⊎◌, ◌+◌, ◌*◌, ◌<◌, List, length, slice_get, Some}
use Rattle.std.specs.Int.{bit_at}
use Rattle.std.specs.Int.RustNames.{bit_or}
use Rattle.meta_settings.specs.Layout.{Layout, BuiltPreset}
use Rattle.meta_settings.specs.PresetLayout.{IsOnAt, HasBitsOf}

-- the group has one mask a preset and setting byte, preset after preset; it has exactly the bits, of those of its byte, of the
-- booleans that the preset turns on
pub record ArePresetMasks (g : Layout) (masks : List ℕ) : Type 0 where
  pub size : length masks ≡ length g.presets * g.settings_size
  pub bits : (k byte m : ℕ) (p : BuiltPreset) → slice_get g.presets k ≡ Some p → byte < g.settings_size
      → slice_get masks (k * g.settings_size + byte) ≡ Some m → HasBitsOf g.bool_start_byte_offset p.booleans byte m

-- each byte is joined with the mask at its place
pub record AreJoined (old masks new : List ℕ) : Type 0 where
  pub size : length new ≡ length old
  pub each : (k b m : ℕ) → slice_get old k ≡ Some b → slice_get masks k ≡ Some m → slice_get new k ≡ Some (bit_or b m)

-- of each setting byte the bits are on that were on or that the preset turns on, and no others
pub record TurnsOnOnly (g : Layout) (p : BuiltPreset) (old new : List ℕ) : Type 0 where
  pub size : length new ≡ length old
  pub bits : (byte b c bit : ℕ) → slice_get old byte ≡ Some b → slice_get new byte ≡ Some c → bit < 8
      → ((bit_at c bit ≡ 1) ↔ ((bit_at b bit ≡ 1) ⊎ IsOnAt g.bool_start_byte_offset p.booleans byte bit))
