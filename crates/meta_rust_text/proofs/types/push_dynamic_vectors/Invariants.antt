use Rattle.std.proofs.Common.{◌≡◌, ◌++◌, map, string_bytes}
use Rattle.std.specs.List.{flat_map}
use Rattle.meta_types.specs.Lane.{lane_parts}
use Rattle.meta_types.specs.LaneTypes.{lane_types_left}
use Rattle.meta_types.specs.AllTypes.{scalars}
use Rattle.meta_types.specs.Vector.{least_lanes_of}
use Rattle.meta_rust_text.specs.TypesText.{sized_text}
use Rattle.meta_rust_text.proofs.types.push_dynamic_vectors.Given as goal

-- the texts of the lane types that are left are still to be added
abbrev pub invariant-loop-lane : goal.invariant-loop-lane
invariant-loop-lane l =
    string_bytes l.out ++ flat_map (sized_text least_lanes_of l.bits) (map lane_parts (lane_types_left l.lane-iterator))
    ≡ string_bytes l.initial.out ++ flat_map (sized_text least_lanes_of l.bits) scalars
