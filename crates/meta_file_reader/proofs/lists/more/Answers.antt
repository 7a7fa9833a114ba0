use Rattle.std.proofs.Common.{refl}
use Rattle.std.proofs.lemmas.Result.{err_from_is_err_and}
use Rattle.meta_file_reader.specs.Lists.{more_at}
use Rattle.meta_file_reader.proofs.Loop.{goes_on, ends_here, fails, runs_out}
use Rattle.meta_file_reader.proofs.lists.more.Goals as goal

pub returns-in_err-next : goal.returns-in_err-next
returns-in_err-next g c =
    let p = err_from_is_err_and c.from_residual.result c.from_residual.ensures.1 in
    rw (p.1, p.2) (fails _ _ c.in_err-next.field-0.0 _ _ _ c.loop.counter _ _ c.loop-test.true c.in_err-next.ensures c.loop.invariant)

pub returns-in-None : goal.returns-in-None
returns-in-None g c = ends_here _ _ _ _ c.loop.counter _ _ _ c.loop-test.true (rw c.in-None.is at c.in_ok-next.ensures) c.loop.invariant

pub loop-preserved : goal.loop-preserved
loop-preserved g c =
    rw c.in_ok-push-in-Some.ensures.items (goes_on _ _ _ _ c.loop.counter _ _ _ _ c.loop-test.true
    (rw c.in-Some.is at c.in_ok-next.ensures) c.loop.invariant)

pub returns : goal.returns
unfolding more_at
returns g c = runs_out _ _ _ _ _ c.loop.counter _ _ _ c.loop-test.false refl c.loop.invariant
