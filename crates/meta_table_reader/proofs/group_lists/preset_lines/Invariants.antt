use Rattle.std.proofs.Common.{◌≡◌, ℕ, List, ◌++◌, All, length, take, drop}
use Rattle.std.specs.List.{flat_map}
use Rattle.meta_setting_tables.specs.declared.descriptor.Descriptor.{Descriptor}
use Rattle.meta_setting_tables.specs.EntryValues.{masks_from}
use Rattle.meta_table_text.specs.GroupText.{preset_text}
use Rattle.meta_table_reader.specs.ShownGroup.{IsShownDescriptor, AreShownMasksOf}
use Rattle.meta_table_reader.proofs.group_lists.preset_lines.Given as goal

-- what is read, and what is left to read
abbrev pub invariant-loop : goal.invariant-loop
invariant-loop l =
    (booleans ds : List Descriptor) (ms rest : List ℕ) → All IsShownDescriptor booleans → All IsShownDescriptor ds
    → All (AreShownMasksOf l.size ms) ds → l.presets ≡ length ds
    → l.initial.cursor ≡ flat_map (preset_text booleans l.size ms) ds ++ rest
    → (l.masks.items ≡ flat_map (λ (d : Descriptor). masks_from l.size ms d.offset) (take l.counter ds))
    × (l.cursor ≡ flat_map (preset_text booleans l.size ms) (drop l.counter ds) ++ rest)
