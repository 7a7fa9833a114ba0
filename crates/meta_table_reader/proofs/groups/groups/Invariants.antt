use Rattle.std.proofs.Common.{◌≡◌, List, [], ◌++◌, All, take, drop}
use Rattle.std.specs.List.{flat_map, AllZip}
use Rattle.meta_setting_tables.specs.GroupTables.{GroupContents}
use Rattle.meta_setting_tables.specs.Parts.{HasGroupParts}
use Rattle.meta_table_text.specs.GroupText.{group_text}
use Rattle.meta_table_reader.specs.ShownGroup.{AreShownGroup}
use Rattle.meta_table_reader.proofs.groups.groups.Given as goal

-- what is read, and what is left to read
abbrev pub invariant-loop : goal.invariant-loop
invariant-loop l =
    (gs : List GroupContents) → All AreShownGroup gs → l.initial.cursor ≡ flat_map group_text gs
    → AllZip HasGroupParts l.groups.items (take l.counter gs) × (l.cursor ≡ flat_map group_text (drop l.counter gs) ++ [])
