use Rattle.std.proofs.Common.{◌≡◌, ◌++◌, drop}
use Rattle.meta_file_syntax.specs.Spelling.{docs}
use Rattle.meta_file_syntax.proofs.speller.Speller.begin.Given as goal

abbrev pub invariant-loop-line : goal.invariant-loop-line
invariant-loop-line l = l.self.tokens.items ++ docs (drop l.line-index l.lines) ≡ l.fn.self.tokens.items ++ docs l.lines
