use Rattle.std.proofs.Common.{◌<◌, ℕ}
use Rattle.meta_command_line.specs.Asked.{AsksAt}
use Rattle.meta_command_line.proofs.asked.Asked.among.Given as goal

-- none of the words so far asks for anything
abbrev pub invariant-loop-word : goal.invariant-loop-word
invariant-loop-word l = (k : ℕ) → k < l.word-index → AsksAt l.words k → ⊥
