use Rattle.std.proofs.Common.{◌≡◌, ◌++◌, drop, string_bytes}
use Rattle.std.specs.List.{flat_map}
use Rattle.meta_rust_insts.specs.Accessors.{mark_arm}
use Rattle.meta_rust_insts.proofs.accessors.arms.Given as goal

-- what is written, and then what is left to write
abbrev pub invariant-loop-instruction : goal.invariant-loop-instruction
invariant-loop-instruction l =
    string_bytes l.text ++ flat_map (mark_arm l.mark) (drop l.instruction-index l.instructions)
    ≡ flat_map (mark_arm l.mark) l.instructions
