use Rattle.std.proofs.Common.{◌≡◌}
use Rattle.std.specs.List.{list_any}
use Rattle.meta_rust_names.specs.Variants.{stands_for}
use Rattle.meta_rust_names.proofs.variants.has_variant.Given as goal

-- what is told of those that are left is told of all
abbrev pub invariant-loop-variant : goal.invariant-loop-variant
invariant-loop-variant l = list_any (stands_for l.name) l.variant-iterator ≡ list_any (stands_for l.name) l.values
