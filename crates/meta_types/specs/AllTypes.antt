-- All types in the order of their numbers.
use Rattle.std.specs.Prelude.{List, ◌++◌, map, false, true}
use Rattle.std.specs.List.{flat_map}
use Rattle.meta_types.specs.TypeParts.{IntKind, FloatKind, TypeParts, widths, lane_counts, scalar}
use Rattle.meta_types.specs.Vector.{lanes_of, least_lanes_of}

-- the nine lane types
abbrev pub scalars : List TypeParts
scalars = map (scalar IntKind) (widths IntKind) ++ map (scalar FloatKind) (widths FloatKind)

-- the scalars and the fixed vectors by rising lane count, then the dynamic vectors by rising least lane count
abbrev pub all_types : List TypeParts
all_types = flat_map (λ n. map (λ lane. lanes_of lane n) scalars) (lane_counts false)
    ++ flat_map (λ n. map (λ lane. least_lanes_of lane n) scalars) (lane_counts true)
