use Rattle.std.proofs.Common.{◌≡◌, drop}
use Rattle.std.specs.List.{list_all}
use Rattle.std.specs.Str.{is_utf8}
use Rattle.meta_file_types.proofs.texts.are_lines.Given as goal

-- what is left decides
abbrev pub invariant-loop-line : goal.invariant-loop-line
invariant-loop-line l = list_all is_utf8 (drop l.line-index l.lines) ≡ list_all is_utf8 l.lines
