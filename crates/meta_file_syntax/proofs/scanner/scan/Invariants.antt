use Rattle.std.proofs.Common.{◌≡◌, ◌+◌, ◌≤◌, ◌++◌, drop, length}
use Rattle.meta_file_syntax.specs.Scan.{scanned, tokens_in}
use Rattle.meta_file_syntax.specs.TokenLines.{token_lines, lines_in, last_line_from, last_line_in}
use Rattle.meta_file_syntax.proofs.scanner.scan.Given as goal

-- the tokens and the lines so far, and those of what is left, are all
abbrev pub invariant-loop-byte : goal.invariant-loop-byte
invariant-loop-byte l = record {
  tokens : l.scanner.tokens.items ++ scanned l.scanner.mode l.scanner.bytes.items (drop l.byte-index l.text) ≡ tokens_in l.text;
  lines : l.lines.items ++ token_lines l.scanner.mode l.scanner.bytes.items l.line (drop l.byte-index l.text) ≡ lines_in l.text;
  each : length l.lines.items ≡ length l.scanner.tokens.items;
  last : last_line_from l.last_line l.line (drop l.byte-index l.text) ≡ last_line_in l.text;
  below : l.line ≤ l.byte-index + 1;
}
