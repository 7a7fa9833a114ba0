-- Sets of types as the program compares them.
use Rattle.std.specs.Prelude.{Bool}
use Rattle.meta_typevar.specs.TypeSetParts.{TypeSetParts}
use Rattle.meta_typevar.specs.contracts.type_set.TypeSetPartialEq.TheImpl.{eq-value}

-- whether the two compare equal
abbrev pub are_equal : TypeSetParts → TypeSetParts → Bool
are_equal s t = eq-value.it s t
