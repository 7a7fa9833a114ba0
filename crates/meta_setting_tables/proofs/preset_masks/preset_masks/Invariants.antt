use Rattle.meta_setting_tables.proofs.Masking.{AreMasksTo}
use Rattle.meta_setting_tables.proofs.preset_masks.preset_masks.Given as goal

-- the masks of the presets so far
abbrev pub invariant-loop-preset : goal.invariant-loop-preset
invariant-loop-preset l = AreMasksTo l.group l.preset-index l.masks.items
