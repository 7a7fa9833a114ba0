use Rattle.std.proofs.Common.{◌≡◌, string_bytes}
use Rattle.meta_table_text.specs.OpcodeText.{each_opcode, opcode_block}
use Rattle.meta_table_text.proofs.opcode_lists.push_entries.Given as goal

abbrev pub invariant-loop-before : goal.invariant-loop-before
invariant-loop-before l =
    string_bytes l.lines ≡ each_opcode (opcode_block l.version l.tables.opcodes) l.before
