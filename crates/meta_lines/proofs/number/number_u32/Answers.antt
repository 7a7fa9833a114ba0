use Rattle.std.proofs.Common.{arith}
use Rattle.meta_lines.proofs.number.number_u32.Goals as goal

pub returns-in_err-number-clause-none : goal.returns-in_err-number-clause-none
returns-in_err-number-clause-none c = rw c.from_residual.ensures (λ n few e. c.in_err-number.ensures.none n (omega (arith, few)) e)

pub returns-clause-some : goal.returns-clause-some
returns-clause-some c = c.in_ok-number.ensures.some
