use Rattle.std.proofs.Common.{◌≡◌, ◌==◌, not, take}
use Rattle.std.specs.List.{filter}
use Rattle.meta_asm.proofs.words.without_spaces.Given as goal

-- the bytes so far but the spaces
abbrev pub invariant-loop-byte : goal.invariant-loop-byte
invariant-loop-byte l = l.word.items ≡ filter (λ b. not (b == 32)) (take l.byte-index l.list)
