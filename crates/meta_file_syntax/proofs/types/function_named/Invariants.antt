use Rattle.std.proofs.Common.{◌≡◌, drop}
use Rattle.meta_types.specs.declared.derived_func.TheConstants.{DERIVED_FUNCS}
use Rattle.meta_file_syntax.specs.Words.{written_so, function_text, function_named}
use Rattle.meta_file_syntax.proofs.types.function_named.Given as goal

-- the word is different from all those so far
abbrev pub invariant-loop-function : goal.invariant-loop-function
invariant-loop-function l = written_so function_text (drop l.function-index DERIVED_FUNCS) l.name ≡ function_named l.name
