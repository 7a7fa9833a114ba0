use Rattle.std.proofs.Common.{◌≡◌, ℕ, List, take}
use Rattle.std.specs.List.{flat_map}
use Rattle.meta_rust_names.specs.Known.{known}
use Rattle.meta_rust_names.specs.Methods.{is_among, imm_methods_of}
use Rattle.meta_rust_names.proofs.methods.imm_methods.Given as goal

-- the names so far
abbrev pub invariant-loop-instruction : goal.invariant-loop-instruction
invariant-loop-instruction l =
    (text : List ℕ) → known l.names text
    ≡ is_among (flat_map imm_methods_of (take l.instruction-index l.instructions)) text
