use Rattle.std.proofs.Common.{◌≡◌, ◌++◌, drop, string_bytes, []}
use Rattle.std.specs.List.{flat_map}
use Rattle.meta_rust_insts.specs.OpcodeItems.{opcode_text}
use Rattle.meta_rust_insts.proofs.opcodes.each_opcode.Given as goal

-- what is written, and then what is left to write
abbrev pub invariant-loop-instruction : goal.invariant-loop-instruction
invariant-loop-instruction l =
    string_bytes l.text ++ flat_map (opcode_text l.formats []) (drop l.instruction-index l.later)
    ≡ string_bytes l.initial.text ++ flat_map (opcode_text l.formats []) l.later
