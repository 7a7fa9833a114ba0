use Rattle.std.proofs.Common.{◌≡◌, ◌++◌, map, take}
use Rattle.meta_types.specs.TypeParts.{IntKind, FloatKind, scalar}
use Rattle.meta_types.specs.Lane.{lane_parts}
use Rattle.meta_typevar.specs.MaskSets.{sets_in}
use Rattle.meta_typevar.proofs.masks.Masks.lane_types.Given as goal

-- the ints before this place were added
abbrev pub invariant-loop-int : goal.invariant-loop-int
invariant-loop-int l = map lane_parts l.lane_types.items ≡ map (scalar IntKind) (take l.int-index l.int-items)

-- all ints were added, and the floats before this place
abbrev pub invariant-loop-float : goal.invariant-loop-float
invariant-loop-float l = map lane_parts l.lane_types.items ≡ map (scalar IntKind) (sets_in l.fn.self).ints
    ++ map (scalar FloatKind) (take l.float-index l.float-items)
