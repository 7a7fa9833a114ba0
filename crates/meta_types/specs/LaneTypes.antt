-- The lane types in their order, and what an iterator over them has left.
--     ints, floats, lane_types      each integer, each float and each lane type once
--     ints_left s, floats_left s, lane_types_left s      the items that the iterator s has still to give
use Rattle.std.specs.Prelude.{List, [], ◌∷◌, ◌++◌, map, drop}
use Rattle.meta_types.specs.declared.lane.Int.{Int}
use Rattle.meta_types.specs.declared.lane.Int.TheVariants.{I8, I16, I32, I64, I128}
use Rattle.meta_types.specs.declared.lane.Float.{Float}
use Rattle.meta_types.specs.declared.lane.Float.TheVariants.{F16, F32, F64, F128}
use Rattle.meta_types.specs.declared.lane.LaneType.{LaneType}
use Rattle.meta_types.specs.declared.lane.LaneType.TheVariants.{Int as IntLane, Float as FloatLane}
use Rattle.meta_types.specs.declared.lane_iter.IntIterator.{IntIterator}
use Rattle.meta_types.specs.declared.lane_iter.FloatIterator.{FloatIterator}
use Rattle.meta_types.specs.declared.lane_iter.LaneTypeIterator.{LaneTypeIterator}

-- the integers in rising width
abbrev pub ints : List Int
ints = I8 ∷ I16 ∷ I32 ∷ I64 ∷ I128 ∷ []

-- the floats in rising width
abbrev pub floats : List Float
floats = F16 ∷ F32 ∷ F64 ∷ F128 ∷ []

-- the nine lane types, integers first
abbrev pub lane_types : List LaneType
lane_types = map IntLane ints ++ map FloatLane floats

-- what an iterator has still to give, in order
abbrev pub ints_left : IntIterator → List Int
ints_left s = drop s.index ints

abbrev pub floats_left : FloatIterator → List Float
floats_left s = drop s.index floats

abbrev pub lane_types_left : LaneTypeIterator → List LaneType
lane_types_left s = map IntLane (ints_left s.int_iter) ++ map FloatLane (floats_left s.float_iter)
