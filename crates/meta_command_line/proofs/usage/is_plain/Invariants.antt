use Rattle.meta_command_line.proofs.Plain.{IsPlainTo}
use Rattle.meta_command_line.proofs.usage.is_plain.Given as goal

-- the bytes so far are plain
abbrev pub invariant-loop-byte : goal.invariant-loop-byte
invariant-loop-byte l = IsPlainTo l.byte-index l.word
