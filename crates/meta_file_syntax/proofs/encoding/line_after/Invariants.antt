use Rattle.std.proofs.Common.{◌≡◌, ◌+◌, ◌≤◌, drop}
use Rattle.meta_file_syntax.specs.TokenLines.{line_after}
use Rattle.meta_file_syntax.proofs.encoding.line_after.Given as goal

-- the line so far, and the line ends that are left
abbrev pub invariant-loop-byte : goal.invariant-loop-byte
invariant-loop-byte l = record {
  line : line_after l.line (drop l.byte-index l.text) ≡ line_after 1 l.text;
  below : l.line ≤ l.byte-index + 1;
}
