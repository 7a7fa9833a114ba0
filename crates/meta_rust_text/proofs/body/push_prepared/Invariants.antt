use Rattle.std.proofs.Common.{◌≡◌, ◌++◌, drop, string_bytes}
use Rattle.std.specs.List.{flat_map}
use Rattle.meta_rust_text.specs.MethodBody.{conversion_of, mem_flags_of, block_call_of}
use Rattle.meta_rust_text.proofs.body.push_prepared.Given as goal

-- what is written, and then what is left to write
abbrev pub invariant-loop-input : goal.invariant-loop-input
invariant-loop-input l =
    string_bytes l.out ++ flat_map conversion_of (drop l.input-index l.inputs)
    ≡ string_bytes l.initial.out ++ flat_map conversion_of l.inputs

abbrev pub invariant-loop-flags : goal.invariant-loop-flags
invariant-loop-flags l =
    string_bytes l.out ++ flat_map mem_flags_of (drop l.flags-index l.inputs)
    ≡ string_bytes l.initial.out ++ flat_map mem_flags_of l.inputs

abbrev pub invariant-loop-block : goal.invariant-loop-block
invariant-loop-block l =
    string_bytes l.out ++ flat_map block_call_of (drop l.block-index l.inputs)
    ≡ string_bytes l.initial.out ++ flat_map block_call_of l.inputs
