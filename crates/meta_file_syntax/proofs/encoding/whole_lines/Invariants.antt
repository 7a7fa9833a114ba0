use Rattle.std.proofs.Common.{◌≡◌, ◌≤◌, drop}
use Rattle.meta_file_syntax.specs.Encoding.{last_start}
use Rattle.meta_file_syntax.proofs.encoding.whole_lines.Given as goal

-- where the last line begins, so far and by the bytes that are left
abbrev pub invariant-loop-place : goal.invariant-loop-place
invariant-loop-place l = record {
  start : last_start l.start l.place (drop l.place l.text) ≡ last_start 0 0 l.text;
  within : l.start ≤ l.place;
}
