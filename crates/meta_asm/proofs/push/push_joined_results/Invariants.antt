use Rattle.std.proofs.Common.{◌≡◌, ◌++◌, take, string_bytes}
use Rattle.meta_asm.specs.Short.{joined}
use Rattle.meta_asm.specs.ShortWritten.{manner_in}
use Rattle.meta_asm.proofs.Writing.{result_texts}
use Rattle.meta_asm.proofs.push.push_joined_results.Given as goal

-- the results so far were added
abbrev pub invariant-loop-k : goal.invariant-loop-k
invariant-loop-k l = string_bytes l.out ≡ string_bytes l.fn.out ++ joined (take l.k (result_texts (manner_in l.manner).opened l.results))
