use Rattle.std.proofs.Common.{◌≡◌, string_bytes}
use Rattle.meta_rust_text.specs.MethodBody.{parted_to, numbered_result}
use Rattle.meta_rust_text.proofs.results.numbered_results.Given as goal

-- the results so far are written
abbrev pub invariant-loop-before : goal.invariant-loop-before
invariant-loop-before l = string_bytes l.text ≡ parted_to numbered_result l.before
