use Rattle.std.proofs.Common.{◌≡◌, ◌+◌, ◌++◌, drop, length}
use Rattle.meta_file_syntax.specs.Squeezed.{squeezed, squeezed_lines}
use Rattle.meta_file_syntax.proofs.squeezing.squeeze.Given as goal

-- what is kept so far, and what is kept of the rest, are all
abbrev pub invariant-loop-line : goal.invariant-loop-line
invariant-loop-line l = record {
  tokens : l.kept.tokens.items ++ squeezed l.rest.items ≡ squeezed l.fn.whole.tokens.items;
  lines : l.kept.lines.items ++ squeezed_lines l.rest.items (drop l.line-index l.line-items)
      ≡ squeezed_lines l.fn.whole.tokens.items l.line-items;
  left : length l.rest.items + l.line-index ≡ length l.line-items;
  each : length l.kept.lines.items ≡ length l.kept.tokens.items;
  same : l.line-items ≡ l.fn.whole.lines.items;
  last : l.kept.last_line ≡ l.fn.whole.last_line;
}
