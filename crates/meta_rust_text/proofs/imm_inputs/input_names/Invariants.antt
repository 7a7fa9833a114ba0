use Rattle.std.proofs.Common.{◌≡◌, ◌++◌, drop, string_bytes}
use Rattle.meta_inst.specs.Content.{more_names_text}
use Rattle.meta_rust_text.proofs.imm_inputs.input_names.Given as goal

-- what is written, and then what is left to write
abbrev pub invariant-loop-input : goal.invariant-loop-input
invariant-loop-input l =
    string_bytes l.text ++ more_names_text (drop l.input-index l.rest)
    ≡ string_bytes l.initial.text ++ more_names_text l.rest
