use Rattle.std.proofs.Common.{◌≡◌, ◌++◌, drop, string_bytes, flat_map}
use Rattle.meta_table_text.specs.GroupItems.{pair_text}
use Rattle.meta_table_text.proofs.group_text.push_preset.Given as goal

-- what is written, and then what is left to write
abbrev pub invariant-loop-mask : goal.invariant-loop-mask
invariant-loop-mask l = string_bytes l.out ++ flat_map pair_text (drop l.mask-index l.masks)
    ≡ string_bytes l.initial.out ++ flat_map pair_text l.masks
