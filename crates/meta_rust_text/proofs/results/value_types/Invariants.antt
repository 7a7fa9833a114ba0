use Rattle.std.proofs.Common.{◌≡◌, codes, string_bytes}
use Rattle.meta_rust_text.specs.MethodBody.{parted_to}
use Rattle.meta_rust_text.proofs.results.value_types.Given as goal

-- the types so far are written
abbrev pub invariant-loop-before : goal.invariant-loop-before
invariant-loop-before l = string_bytes l.text ≡ parted_to (λ number. codes "Value") l._before
