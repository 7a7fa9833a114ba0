use Rattle.std.proofs.Common.{◌≡◌, ◌++◌, take, string_bytes}
use Rattle.meta_explain.specs.Texts.{more_text}
use Rattle.meta_explain.proofs.texts.push_more.Given as goal

-- the names so far were added
abbrev pub invariant-loop-number : goal.invariant-loop-number
invariant-loop-number l = string_bytes l.out ≡ string_bytes l.initial.out ++ more_text (take l.number-index l.numbers)
