use Rattle.std.proofs.Common.{◌≡◌, ◌++◌, drop}
use Rattle.meta_file_syntax.specs.Laid.{escaped}
use Rattle.meta_file_syntax.proofs.writing.write_escaped.Given as goal

abbrev pub invariant-loop-byte : goal.invariant-loop-byte
invariant-loop-byte l = l.text.items ++ escaped (drop l.byte-index l.bytes) ≡ l.fn.text.items ++ escaped l.bytes
