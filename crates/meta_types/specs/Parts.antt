-- The parts of a type, as the program takes them apart.
--     parts_meaning p          what the parts are of: a type, or none where the width or the lanes are no type's
use Rattle.meta_types.specs.TypeParts.{NumberKind, IntKind, FloatKind, TypeParts}
use Rattle.meta_types.specs.declared.derived_func.LaneKind.{LaneKind}
use Rattle.meta_types.specs.declared.derived_func.LaneKind.TheVariants.{Int, Float}
use Rattle.meta_types.specs.declared.derived_func.Parts.{Parts}

-- the kind of a lane
abbrev pub lane_kind_of : LaneKind → NumberKind
lane_kind_of Int = IntKind
lane_kind_of Float = FloatKind

-- what contracts see of these parts
abbrev pub parts_meaning : Parts → TypeParts
parts_meaning p = record { kind = lane_kind_of p.kind; width = p.width; lanes = p.lanes; is_dynamic = p.is_dynamic }
