use Rattle.std.proofs.Common.{◌≡◌, ◌++◌, drop, string_bytes}
use Rattle.std.specs.List.{flat_map}
use Rattle.meta_rust_text.specs.TypesText.{vector_sizes}
use Rattle.meta_rust_text.proofs.TypeTexts.{size_text}
use Rattle.meta_rust_text.proofs.types.push_sizes.Given as goal

-- the texts of the sizes that are left are still to be added
abbrev pub invariant-loop-bits : goal.invariant-loop-bits
invariant-loop-bits l =
    string_bytes l.out ++ flat_map size_text (drop l.bits-index vector_sizes)
    ≡ string_bytes l.initial.out ++ flat_map size_text vector_sizes
