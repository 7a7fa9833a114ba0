use Rattle.std.proofs.Common.{◌≡◌, ◌++◌, string_bytes}
use Rattle.std.specs.Str.Iter.{chars_rest}
use Rattle.meta_rust_insts.specs.EntityWord.{snake_from, snake_case}
use Rattle.meta_rust_insts.proofs.map_method.snake_case.Given as goal

-- what is written, and the snake case of what is left, are the snake case of the name
abbrev pub invariant-loop-c : goal.invariant-loop-c
invariant-loop-c l = string_bytes l.word ++ snake_from l.later (chars_rest l.c-iterator) ≡ snake_case l.name
