use Rattle.std.proofs.Common.{◌≡◌, ◌++◌, drop}
use Rattle.meta_file_reader.specs.ItemLines.{key_lines_from}
use Rattle.meta_file_reader.proofs.reading.key_lines.Given as goal

-- the lines so far, and those of the tokens that are left, are all
abbrev pub invariant-loop-place : goal.invariant-loop-place
invariant-loop-place l = l.found.items ++ key_lines_from l.place (drop l.place l.tokens) l.lines ≡ key_lines_from 0 l.tokens l.lines
