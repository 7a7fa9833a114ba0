use Rattle.std.proofs.Common.{◌≡◌, ◌++◌, drop, string_bytes}
use Rattle.std.specs.List.{flat_map}
use Rattle.meta_text.specs.Ends.{gap_text}
use Rattle.meta_rust_text.specs.BuilderText.{constructor_at}
use Rattle.meta_rust_text.proofs.builder_items.push_constructors.Given as goal

-- what is written, and then what is left to write
abbrev pub invariant-loop-number : goal.invariant-loop-number
invariant-loop-number l =
    string_bytes l.out ++ flat_map (λ number. gap_text ++ constructor_at l.formats number) (drop l.number-index l.others)
    ≡ string_bytes l.initial.out ++ flat_map (λ number. gap_text ++ constructor_at l.formats number) l.others
