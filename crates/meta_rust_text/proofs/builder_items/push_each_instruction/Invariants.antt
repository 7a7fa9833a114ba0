use Rattle.std.proofs.Common.{◌≡◌, ◌++◌, drop, string_bytes}
use Rattle.std.specs.List.{flat_map}
use Rattle.meta_rust_text.specs.BuilderText.{methods_text}
use Rattle.meta_rust_text.proofs.builder_items.push_each_instruction.Given as goal

-- what is written, and then what is left to write
abbrev pub invariant-loop-instruction : goal.invariant-loop-instruction
invariant-loop-instruction l =
    string_bytes l.out ++ flat_map (methods_text l.vars l.formats) (drop l.instruction-index l.instructions)
    ≡ string_bytes l.initial.out ++ flat_map (methods_text l.vars l.formats) l.instructions
