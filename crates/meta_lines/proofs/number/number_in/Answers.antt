use Rattle.std.proofs.Common.{arith}
use Rattle.meta_lines.proofs.NumberLemmas.{one_value}
use Rattle.meta_lines.proofs.number.number_in.Goals as goal

pub returns-in_err-number-clause-none : goal.returns-in_err-number-clause-none
returns-in_err-number-clause-none c = rw c.from_residual.ensures (λ n within e. c.in_err-number.ensures.none n (omega (arith, within)) e)

pub returns-else-number-most-clause-none : goal.returns-else-number-most-clause-none
returns-else-number-most-clause-none c = λ n within e.
    let small = c.in_ok-number.ensures.small in
    let same = one_value c.in_ok-number.number n c.args.word.now small (omega (arith, within)) c.in_ok-number.ensures.some e in
    omega (arith, same, within, c.if-number-most.false)
