use Rattle.std.proofs.Common.{◌≡◌, ◌++◌, drop}
use Rattle.meta_file_syntax.specs.Spelling.{closed}
use Rattle.meta_file_syntax.proofs.speller.Speller.add_type.Given as goal

-- what is added, and what is left to add
abbrev pub invariant-loop-function : goal.invariant-loop-function
invariant-loop-function l = l.self.tokens.items ++ closed (drop l._function-index l.functions)
    ≡ l.initial.self.tokens.items ++ closed l.functions
