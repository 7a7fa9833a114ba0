use Rattle.std.proofs.Common.{◌≡◌, ◌++◌, map, take, string_bytes}
use Rattle.meta_verify.specs.Statement.{value_text}
use Rattle.meta_asm.specs.Short.{joined}
use Rattle.meta_asm.proofs.push.push_joined_values.Given as goal

-- the values so far were added
abbrev pub invariant-loop-k : goal.invariant-loop-k
invariant-loop-k l = string_bytes l.out ≡ string_bytes l.fn.out ++ joined (take l.k (map value_text l.values))
