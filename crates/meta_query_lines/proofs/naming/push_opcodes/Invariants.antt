use Rattle.std.proofs.Common.{string_bytes}
use Rattle.meta_query_lines.specs.Explanation.{opcode_text}
use Rattle.meta_query_lines.proofs.ListedLemmas.{AreFirst}
use Rattle.meta_query_lines.proofs.naming.push_opcodes.Given as goal

-- the names of the first opcodes stand there
abbrev pub invariant-loop-k : goal.invariant-loop-k
invariant-loop-k l = AreFirst (opcode_text l.tables) l.opcodes (string_bytes l.fn.out) l.k (string_bytes l.out)
