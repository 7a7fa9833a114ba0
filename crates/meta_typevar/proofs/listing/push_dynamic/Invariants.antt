use Rattle.std.proofs.Common.{◌≡◌, ◌++◌, map, take}
use Rattle.meta_types.specs.Lane.{lane_parts}
use Rattle.meta_types.specs.Vector.{least_lanes_of}
use Rattle.meta_types.specs.ValueTypes.{type_parts_of}
use Rattle.meta_typevar.proofs.listing.push_dynamic.Given as goal

-- the types of the lane types before this place were added
abbrev pub invariant-loop-lane_type : goal.invariant-loop-lane_type
invariant-loop-lane_type l = map type_parts_of l.types.items ≡ map type_parts_of l.fn.types.items
    ++ map (λ x. least_lanes_of (lane_parts x) l.lanes) (take l.lane_type-index l.lane_types)
