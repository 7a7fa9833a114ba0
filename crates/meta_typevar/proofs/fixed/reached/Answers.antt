use Rattle.std.proofs.Common.{arith}
use Rattle.meta_typevar.proofs.Fixing.{chain_next, step_taken, step_missed}
use Rattle.meta_typevar.proofs.fixed.reached.Goals as goal

pub loop-derived_func-preserved : goal.loop-derived_func-preserved
loop-derived_func-preserved c =
    let below = c.loop-derived_func-test.true in
    let end = c.loop-derived_func.auto.derived_func-index-end in
    step_taken _ _ _ _ _ _ _ (chain_next c.args.chain.now c.loop-derived_func.derived_func-index _ (omega (arith, below, end)))
    c.in_ok-t.ensures.found c.loop-derived_func.invariant

pub returns-in_err-t-clause-none : goal.returns-in_err-t-clause-none
returns-in_err-t-clause-none c =
    let below = c.loop-derived_func-test.true in
    let end = c.loop-derived_func.auto.derived_func-index-end in
    rw (c.from_residual.ensures) (step_missed _ _ _ _ _ _ (chain_next c.args.chain.now c.loop-derived_func.derived_func-index _
    (omega (arith, below, end))) c.in_err-t.ensures.none c.loop-derived_func.invariant)
