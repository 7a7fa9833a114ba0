use Rattle.std.proofs.Common.{◌≡◌, ◌++◌, drop}
use Rattle.meta_file_syntax.specs.Spelling.{each_after, comma}
use Rattle.meta_file_syntax.proofs.speller.Speller.add_listed.Given as goal

abbrev pub invariant-loop-part : goal.invariant-loop-part
invariant-loop-part g l = l.self.tokens.items ++ each_after comma g.T.Spelled.tokens (drop l.part-index l.more)
    ≡ l.initial.self.tokens.items ++ each_after comma g.T.Spelled.tokens l.more
