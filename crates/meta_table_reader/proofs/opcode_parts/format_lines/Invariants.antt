use Rattle.std.proofs.Common.{◌≡◌, ℕ, List, ◌++◌, ◌-◌, All, length, take}
use Rattle.meta_types.specs.Name.{IsName}
use Rattle.meta_inst.specs.Tables.{TableContents}
use Rattle.meta_table_text.specs.OpcodeText.{each_opcode, format_line}
use Rattle.meta_table_reader.proofs.ByOpcode.{opcodes_after}
use Rattle.meta_table_reader.proofs.opcode_parts.format_lines.Given as goal

-- what is read, and what is left to read
abbrev pub invariant-loop : goal.invariant-loop
invariant-loop l =
    (t : TableContents) (rest : List ℕ) → All IsName t.names → All IsName t.formats → l.count ≡ length t.names → l.count ≡ length t.formats
    → l.initial.cursor ≡ each_opcode (format_line t) l.count ++ rest
    → (l.names.items ≡ take l.counter t.names) × (l.formats.items ≡ take l.counter t.formats)
    × (l.cursor ≡ opcodes_after (format_line t) l.counter (l.count - l.counter) ++ rest)
