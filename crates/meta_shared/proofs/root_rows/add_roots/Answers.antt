use Rattle.std.proofs.Common.{subst, sym, arith}
use Rattle.std.proofs.lemmas.Result.{IfOk-from_err}
use Rattle.meta_shared.specs.RootRows.{AreAdded, can_build_row}
use Rattle.meta_shared.proofs.Tests.{passes_at}
use Rattle.meta_shared.proofs.Rooted.{added_counted, added_more, row_count}
use Rattle.meta_shared.proofs.root_rows.add_roots.Goals as goal

pub add_root-requires-clause-room : goal.add_root-requires-clause-room
add_root-requires-clause-room c =
    let rows = row_count c.args.rows.now c.requires.rows in
    let count = added_counted _ _ _ _ c.loop-row-test.true c.loop-row.invariant in
    let within = c.loop-row-test.true in
    omega (arith, rows, count, within)

pub add_root-requires-clause-buildable : goal.add_root-requires-clause-buildable
add_root-requires-clause-buildable c =
    passes_at can_build_row c.args.rows.now c.loop-row.row-index _ c.requires.rows.buildable c.loop-row-test.true

pub loop-row-preserved : goal.loop-row-preserved
loop-row-preserved c = subst (AreAdded _ _) (sym c.in_ok-push.ensures.items)
    (added_more _ _ _ _ _ _ _ c.loop-row-test.true c.loop-row.invariant c.in_ok-add_root.ensures.number c.in_ok-add_root.ensures.added)

pub returns-in_err-add_root : goal.returns-in_err-add_root
returns-in_err-add_root c = IfOk-from_err c.from_residual.result _ c.from_residual.ensures.0

pub returns-in_err-push : goal.returns-in_err-push
returns-in_err-push c = IfOk-from_err c.from_residual-in_err-push.result _ c.from_residual-in_err-push.ensures.0
