use Rattle.std.proofs.Common.{◌<◌, ◌≤◌}
use Rattle.meta_types.specs.TypeParts.{TypeParts, number_of}
use Rattle.meta_types.specs.ValueTypes.{type_parts_of}
use Rattle.meta_typevar.specs.TypeSetParts.{IsMember}
use Rattle.meta_typevar.specs.Chained.{functions_of}
use Rattle.meta_typevar.specs.Reaching.{Reaches}
use Rattle.meta_typevar.proofs.fixed.all_reach.Given as goal

-- the functions lead from each member with a lesser number, of those that are looked at, to the type
abbrev pub invariant-loop-number : goal.invariant-loop-number
invariant-loop-number l = (r : TypeParts) → IsMember l.fn.set r → l.fn.from ≤ number_of r → number_of r < l.number
    → Reaches (functions_of l.fn.chain) r (type_parts_of l.fn.t)
