use Rattle.std.proofs.Common.{◌≡◌, drop}
use Rattle.meta_program.specs.ShownPath.{has_control_after, has_control}
use Rattle.meta_program.proofs.paths.has_control.Given as goal

-- a control character ends with a byte that is left exactly if one stands in the text
abbrev pub invariant-loop-byte : goal.invariant-loop-byte
invariant-loop-byte l = has_control_after l.before (drop l.byte-index l.text) ≡ has_control l.text
