use Rattle.std.proofs.Common.{◌≡◌, ◌++◌, drop, string_bytes, flat_map}
use Rattle.meta_table_text.specs.GroupItems.{enumerator_text}
use Rattle.meta_table_text.proofs.group_text.push_enumerators.Given as goal

-- what is written, and then what is left to write
abbrev pub invariant-loop-name : goal.invariant-loop-name
invariant-loop-name l =
    string_bytes l.lines ++ flat_map enumerator_text (drop l.name-index l.names) ≡ flat_map enumerator_text l.names
