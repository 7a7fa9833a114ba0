use Rattle.std.proofs.Common.{◌≡◌, take}
use Rattle.meta_unique.specs.Interning.{pointed_to}
use Rattle.meta_setting_tables.specs.GroupTables.{names_in}
use Rattle.meta_setting_tables.proofs.group_tables.entry_slots.Given as goal

-- the names of the entries so far
abbrev pub invariant-loop-descriptor : goal.invariant-loop-descriptor
invariant-loop-descriptor l = pointed_to l.names.items ≡ names_in (take l.descriptor-index l.descriptors)
