-- The types of the program as contracts see them.
use Rattle.meta_types.specs.TypeParts.{TypeParts}
use Rattle.meta_types.specs.Lane.{lane_parts}
use Rattle.meta_types.specs.Vector.{vector_parts, dynamic_parts}
use Rattle.meta_types.specs.declared.value_type.ValueType.{ValueType}
use Rattle.meta_types.specs.declared.value_type.ValueType.TheVariants.{Lane, Vector, DynamicVector}

-- the parts of a value type
abbrev pub type_parts_of : ValueType → TypeParts
type_parts_of (Lane lane) = lane_parts lane
type_parts_of (Vector v) = vector_parts v
type_parts_of (DynamicVector v) = dynamic_parts v
