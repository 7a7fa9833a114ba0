use Rattle.std.proofs.Common.{◌↔◌, drop}
use Rattle.meta_types.specs.TypeParts.{TypeParts}
use Rattle.meta_types.specs.ValueTypes.{type_parts_of}
use Rattle.meta_typevar.specs.Chained.{functions_of}
use Rattle.meta_typevar.specs.Reaching.{Reaches}
use Rattle.meta_typevar.proofs.fixed.reached.Given as goal

-- what is left of the chain leads from the type so far where the whole leads from the first
abbrev pub invariant-loop-derived_func : goal.invariant-loop-derived_func
invariant-loop-derived_func l = (x : TypeParts)
    → (Reaches (functions_of (drop l.derived_func-index l.fn.chain)) (type_parts_of l.t) x
    ↔ Reaches (functions_of l.fn.chain) (type_parts_of l.fn.r) x)
