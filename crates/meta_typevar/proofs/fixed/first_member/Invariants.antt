use Rattle.std.proofs.Common.{◌≤◌}
use Rattle.meta_types.specs.TypeParts.{TypeParts, number_of}
use Rattle.meta_typevar.specs.TypeSetParts.{IsMember}
use Rattle.meta_typevar.proofs.fixed.first_member.Given as goal

-- no member has a lesser number
abbrev pub invariant-loop-number : goal.invariant-loop-number
invariant-loop-number l = (r : TypeParts) → IsMember l.fn.set r → l.number ≤ number_of r
