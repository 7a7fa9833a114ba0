use Rattle.meta_file_describe.proofs.Wording.{AreLinesSoFar}
use Rattle.meta_file_describe.proofs.texts.docs_of.Given as goal

-- the lines, and the one that has begun in front of those to come, are the lines of the text
abbrev pub invariant-loop-byte : goal.invariant-loop-byte
invariant-loop-byte l = AreLinesSoFar l.text l.byte-index l.lines.items l.line.items
