use Rattle.std.proofs.Common.{◌≡◌, ◌++◌, map, take, true, false}
use Rattle.std.specs.List.{flat_map}
use Rattle.meta_types.specs.ValueTypes.{type_parts_of}
use Rattle.meta_typevar.specs.Concrete.{types_at}
use Rattle.meta_typevar.specs.MaskSets.{sets_in}
use Rattle.meta_typevar.proofs.masks.Masks.concrete_types.Given as goal

-- the types with the lane counts before this place were added
abbrev pub invariant-loop-lanes : goal.invariant-loop-lanes
invariant-loop-lanes l = map type_parts_of l.types.items ≡ flat_map (types_at (sets_in l.fn.self) false) (take l.lanes-index l.lanes-items)

-- and, after all of these, those with the dynamic lane counts before this place
abbrev pub invariant-loop-least : goal.invariant-loop-least
invariant-loop-least l = map type_parts_of l.types.items ≡ flat_map (types_at (sets_in l.fn.self) false) (sets_in l.fn.self).lanes
    ++ flat_map (types_at (sets_in l.fn.self) true) (take l.least-index l.least-items)
