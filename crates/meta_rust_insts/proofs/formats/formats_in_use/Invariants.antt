use Rattle.std.proofs.Common.{◌≡◌, ◌++◌, map, drop, slice_get}
use Rattle.std.specs.List.{filter_map}
use Rattle.meta_rust_insts.proofs.formats.formats_in_use.Given as goal

-- the formats that are found, and then those that are left
abbrev pub invariant-loop-id : goal.invariant-loop-id
invariant-loop-id l =
    map (λ f. f.now) l.formats.items ++ filter_map (slice_get l.built.declared.set.formats) (drop l.id-index l.built.formats)
    ≡ filter_map (slice_get l.built.declared.set.formats) l.built.formats
