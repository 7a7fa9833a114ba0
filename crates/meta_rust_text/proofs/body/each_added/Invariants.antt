use Rattle.std.proofs.Common.{◌≡◌, ◌++◌, drop, string_bytes}
use Rattle.std.specs.List.{flat_map}
use Rattle.meta_rust_text.specs.MethodBody.{added_text}
use Rattle.meta_rust_text.proofs.body.each_added.Given as goal

-- what is written, and then what is left to write
abbrev pub invariant-loop-operand : goal.invariant-loop-operand
invariant-loop-operand l = string_bytes l.text ++ flat_map added_text (drop l.operand-index l.operands) ≡ flat_map added_text l.operands
