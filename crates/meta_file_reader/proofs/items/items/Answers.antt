use Rattle.std.proofs.lemmas.Result.{err_from_is_err_and}
use Rattle.meta_file_reader.proofs.AllItems.{is_empty_then, goes_on, fails, runs_out, no_fuel}
use Rattle.meta_file_reader.proofs.items.items.Goals as goal

pub returns-then-is_empty : goal.returns-then-is_empty
returns-then-is_empty c = is_empty_then _ _ _ _ c.if-is_empty.ensures c.loop.invariant

pub returns-in_err-next : goal.returns-in_err-next
returns-in_err-next c =
    let p = err_from_is_err_and c.from_residual.result c.from_residual.ensures.1 in
    rw (p.1, p.2) (fails c.in_err-next.field-0.0 _ _ c.loop.counter _ _ c.loop-test.true c.if-is_empty.ensures
    c.in_err-next.ensures c.loop.invariant)

pub loop-preserved : goal.loop-preserved
loop-preserved c = rw c.in_ok-push.ensures.items
    (goes_on _ _ c.loop.counter _ _ _ _ c.loop-test.true c.if-is_empty.ensures c.in_ok-next.ensures c.loop.invariant)

pub returns-then-is_empty-2 : goal.returns-then-is_empty-2
returns-then-is_empty-2 c = is_empty_then _ _ _ _ c.if-is_empty-2.ensures c.loop.invariant

pub returns : goal.returns
returns c = runs_out _ _ c.loop.counter _ _ _ c.loop-test.false (no_fuel _ c.if-is_empty-2.ensures) c.loop.invariant
