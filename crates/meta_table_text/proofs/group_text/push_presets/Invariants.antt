use Rattle.std.proofs.Common.{◌≡◌, ◌++◌, length, drop, string_bytes, flat_map}
use Rattle.meta_table_text.specs.GroupText.{presets_in, preset_text}
use Rattle.meta_table_text.proofs.group_text.push_presets.Given as goal

-- what is written, and then what is left to write
abbrev pub invariant-loop-k : goal.invariant-loop-k
invariant-loop-k l =
    string_bytes l.lines ++ flat_map (preset_text l.group.descriptors (length l.group.defaults) l.group.preset_masks)
    (presets_in (drop l.k l.group.descriptors))
    ≡ flat_map (preset_text l.group.descriptors (length l.group.defaults) l.group.preset_masks) (presets_in l.group.descriptors)
