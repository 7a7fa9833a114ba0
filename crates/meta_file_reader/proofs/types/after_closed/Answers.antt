use Rattle.std.proofs.lemmas.Result.{err_from_is_err_and}
use Rattle.meta_file_reader.proofs.ClosedLoop.{goes_on, fails, ends_here}
use Rattle.meta_file_reader.proofs.types.after_closed.Goals as goal

pub returns-in_err-rest : goal.returns-in_err-rest
returns-in_err-rest c =
    let p = err_from_is_err_and c.from_residual.result c.from_residual.ensures.1 in
    rw (p.1, p.2) (fails c.in_err-rest.field-0.0 _ c.loop.counter _ _ c.loop-test.true c.in_err-rest.ensures c.loop.invariant)

pub loop-preserved : goal.loop-preserved
loop-preserved c = goes_on _ c.loop.counter _ _ _ c.loop-test.true c.in_ok-rest.ensures c.loop.invariant

pub returns : goal.returns
returns c = ends_here _ c.loop.counter _ _ c.loop-test.false c.loop.invariant
