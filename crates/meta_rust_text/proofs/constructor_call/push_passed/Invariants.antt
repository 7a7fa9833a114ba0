use Rattle.std.proofs.Common.{◌≡◌, ◌++◌, drop, string_bytes}
use Rattle.meta_rust_text.specs.MethodBody.{passed_at}
use Rattle.meta_rust_text.proofs.constructor_call.push_passed.Given as goal

-- what is written, and then what is left to write
abbrev pub invariant-loop-place : goal.invariant-loop-place
invariant-loop-place l =
    string_bytes l.out ++ passed_at l.inputs (drop l.place-index l.places)
    ≡ string_bytes l.initial.out ++ passed_at l.inputs l.places
