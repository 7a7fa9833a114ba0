use Rattle.std.proofs.Common.{◌≡◌, ◌++◌, drop}
use Rattle.meta_file_syntax.specs.Named.{doc_text, more_lines}
use Rattle.meta_file_syntax.proofs.docs.Docs.text.Given as goal

-- the text so far, and that of the lines that are left, are all
abbrev pub invariant-loop-line : goal.invariant-loop-line
invariant-loop-line l = l.text.items ++ more_lines (drop l.line-index l.more) ≡ doc_text l.self
