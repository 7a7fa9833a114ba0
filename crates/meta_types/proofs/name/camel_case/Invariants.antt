use Rattle.std.proofs.Common.{◌≡◌, ◌++◌, string_bytes, true}
use Rattle.std.specs.Str.Iter.{chars_rest}
use Rattle.meta_types.specs.CamelCase.{camel_from}
use Rattle.meta_types.proofs.name.camel_case.Given as goal

-- what is written, and the camel case of what is left, are the camel case of all
abbrev pub invariant-loop-c : goal.invariant-loop-c
invariant-loop-c l = string_bytes l.out ++ camel_from l.at_start (chars_rest l.c-iterator) ≡ camel_from true l.s
