use Rattle.std.proofs.Common.{◌≡◌, string_bytes}
use Rattle.meta_table_text.specs.OpcodeText.{each_opcode, format_line}
use Rattle.meta_table_text.proofs.opcode_lists.push_formats.Given as goal

abbrev pub invariant-loop-before : goal.invariant-loop-before
invariant-loop-before l =
    string_bytes l.lines ≡ each_opcode (format_line l.tables.opcodes) l.before
