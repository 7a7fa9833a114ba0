use Rattle.std.proofs.Common.{◌≡◌, ℕ, List, ◌++◌, ◌-◌, length, map, take}
use Rattle.meta_inst.specs.Tables.{TableContents}
use Rattle.meta_gen.specs.Constraint.{entry_of}
use Rattle.meta_table_text.specs.OpcodeText.{each_opcode, opcode_block}
use Rattle.meta_table_reader.specs.Shown.{AreShownOpcodes}
use Rattle.meta_table_reader.proofs.ByOpcode.{opcodes_after}
use Rattle.meta_table_reader.proofs.entries.blocks.Given as goal

-- what is read, and what is left to read
abbrev pub invariant-loop : goal.invariant-loop
invariant-loop l =
    (t : TableContents) (rest : List ℕ) → AreShownOpcodes l.version t → l.count ≡ length t.entries
    → l.initial.cursor ≡ each_opcode (opcode_block l.version t) l.count ++ rest
    → (map entry_of l.entries.items ≡ take l.counter t.entries)
    × (l.cursor ≡ opcodes_after (opcode_block l.version t) l.counter (l.count - l.counter) ++ rest)
