use Rattle.std.proofs.Common.{◌≡◌, ℕ, List, take, slice_get}
use Rattle.std.specs.List.{flat_map}
use Rattle.meta_rust_names.specs.Known.{known}
use Rattle.meta_rust_names.specs.Methods.{is_among, name_of_format}
use Rattle.meta_rust_names.proofs.methods.format_names.Given as goal

-- the names so far
abbrev pub invariant-loop-id : goal.invariant-loop-id
invariant-loop-id l =
    (text : List ℕ) → known l.names text
    ≡ is_among (flat_map (λ id. name_of_format (slice_get l.formats id)) (take l.id-index l.ids)) text
