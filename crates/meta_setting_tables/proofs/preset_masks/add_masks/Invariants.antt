use Rattle.std.proofs.Common.{◌≡◌, ◌++◌, map, take}
use Rattle.meta_setting_tables.proofs.preset_masks.add_masks.Given as goal

-- the masks of the pairs so far are added
abbrev pub invariant-loop-mask : goal.invariant-loop-mask
invariant-loop-mask l = l.masks.items ≡ l.initial.masks.items ++ map (λ pair. pair.0) (take l.mask-index l.layout)
