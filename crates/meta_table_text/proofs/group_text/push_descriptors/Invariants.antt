use Rattle.std.proofs.Common.{◌≡◌, ◌++◌, drop, string_bytes, flat_map}
use Rattle.meta_table_text.specs.GroupItems.{descriptor_text}
use Rattle.meta_table_text.proofs.group_text.push_descriptors.Given as goal

-- what is written, and then what is left to write
abbrev pub invariant-loop-entry : goal.invariant-loop-entry
invariant-loop-entry l =
    string_bytes l.lines ++ flat_map descriptor_text (drop l.entry-index l.entries) ≡ flat_map descriptor_text l.entries
