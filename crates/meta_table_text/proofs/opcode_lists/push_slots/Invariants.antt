use Rattle.std.proofs.Common.{◌≡◌, ◌++◌, drop, string_bytes, flat_map}
use Rattle.meta_table_text.specs.OpcodeText.{slot_line}
use Rattle.meta_table_text.proofs.opcode_lists.push_slots.Given as goal

-- what is written, and then what is left to write
abbrev pub invariant-loop-slot : goal.invariant-loop-slot
invariant-loop-slot l =
    string_bytes l.lines ++ flat_map (slot_line l.tables.opcodes) (drop l.slot-index l.slots) ≡ flat_map (slot_line l.tables.opcodes) l.slots
