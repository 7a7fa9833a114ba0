use Rattle.std.proofs.Common.{◌≡◌, ◌++◌, drop, string_bytes}
use Rattle.meta_rust_text.specs.GetterText.{arms_text}
use Rattle.meta_rust_text.proofs.getters.enum_arms.Given as goal

-- what is written, and then what is left to write
abbrev pub invariant-loop-byte : goal.invariant-loop-byte
invariant-loop-byte l =
    string_bytes l.arms ++ arms_text l.ty l.byte-counter (drop l.byte-counter l.values) ≡ arms_text l.ty 0 l.values
