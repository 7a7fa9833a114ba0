use Rattle.std.proofs.Common.{arith}
use Rattle.meta_typevar.proofs.Fixing.{number_between}
use Rattle.meta_typevar.proofs.fixed.first_member.Goals as goal

pub returns-clause-none : goal.returns-clause-none
returns-clause-none c = λ r h.
    let low = c.loop-number.invariant r h in
    let high = (number_between r h.is_type).1 in
    omega (arith, low, high)
