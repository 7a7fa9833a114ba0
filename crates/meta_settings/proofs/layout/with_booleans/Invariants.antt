use Rattle.std.proofs.Common.{◌≡◌, length, drop, []}
use Rattle.meta_settings.specs.TurnedOn.{presets_after}
use Rattle.meta_settings.proofs.layout.with_booleans.Given as goal

-- the presets so far are built, and the others are still to come
abbrev pub invariant-loop-preset : goal.invariant-loop-preset
invariant-loop-preset l = record {
  so_far : presets_after l.presets.items (drop l.preset-index l.declared) ≡ presets_after [] l.declared;
  count : length l.presets.items ≡ l.preset-index;
}
