use Rattle.std.proofs.Common.{◌≡◌, ◌++◌, drop, string_bytes}
use Rattle.std.specs.List.{flat_map}
use Rattle.meta_rust_insts.proofs.EnumTemplates.{name_filled}
use Rattle.meta_rust_insts.proofs.opcodes.for_each_name.Given as goal

-- what is written, and then what is left to write
abbrev pub invariant-loop-instruction : goal.invariant-loop-instruction
invariant-loop-instruction l =
    string_bytes l.text ++ flat_map (name_filled l.line) (drop l.instruction-index l.instructions)
    ≡ flat_map (name_filled l.line) l.instructions
