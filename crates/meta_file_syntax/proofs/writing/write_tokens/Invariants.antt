use Rattle.std.proofs.Common.{◌≡◌, ◌++◌, drop}
use Rattle.meta_file_syntax.specs.Laid.{then_text, laid}
use Rattle.meta_file_syntax.proofs.writing.write_tokens.Given as goal

-- the text so far, and what stands after its last token, are all
abbrev pub invariant-loop-token : goal.invariant-loop-token
invariant-loop-token l = l.text.items ++ then_text l.last (drop l.token-index l.more) ≡ laid l.tokens
