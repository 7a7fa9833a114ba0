-- The types of the program as contracts see them.
use Rattle.std.specs.Prelude.{ℕ}
use Rattle.meta_types.specs.TypeParts.{IntKind, FloatKind, TypeParts, scalar}
use Rattle.meta_types.specs.declared.lane.Int.{Int}
use Rattle.meta_types.specs.declared.lane.Int.TheVariants.{I8, I16, I32, I64, I128}
use Rattle.meta_types.specs.declared.lane.Float.{Float}
use Rattle.meta_types.specs.declared.lane.Float.TheVariants.{F16, F32, F64, F128}
use Rattle.meta_types.specs.declared.lane.LaneType.{LaneType}
use Rattle.meta_types.specs.declared.lane.LaneType.TheVariants.{Int as IntLane, Float as FloatLane}

-- the width of an integer lane, and of a float
abbrev pub int_width : Int → ℕ
int_width I8 = 8
int_width I16 = 16
int_width I32 = 32
int_width I64 = 64
int_width I128 = 128

abbrev pub float_width : Float → ℕ
float_width F16 = 16
float_width F32 = 32
float_width F64 = 64
float_width F128 = 128

-- the parts of a lane type
abbrev pub lane_parts : LaneType → TypeParts
lane_parts (IntLane i) = scalar IntKind (int_width i)
lane_parts (FloatLane f) = scalar FloatKind (float_width f)
