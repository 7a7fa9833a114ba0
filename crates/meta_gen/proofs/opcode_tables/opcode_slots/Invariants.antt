use Rattle.std.proofs.Common.{◌≡◌, take}
use Rattle.meta_unique.specs.Interning.{pointed_to}
use Rattle.meta_gen.proofs.opcode_tables.opcode_slots.Given as goal

-- the names so far
abbrev pub invariant-loop-name : goal.invariant-loop-name
invariant-loop-name l = pointed_to l.borrowed.items ≡ take l.name-index l.names
