use Rattle.std.proofs.Common.{◌+◌, List, [], Bor, subst, arith}
use Rattle.std.proofs.lemmas.Result.{IfOk-from_err}
use Rattle.meta_shared.specs.declared.row.Row.{Row}
use Rattle.meta_shared.specs.Rows.{AddsRows}
use Rattle.meta_shared.proofs.Growing.{meant_grows, grows_more, grows_to, grown_count}
use Rattle.meta_shared.proofs.Made.{adds_joined, rows_in_more, table_derives, table_derivable, tables_derive}
use Rattle.meta_shared.proofs.declaring.push_tables.Goals as goal

pub push_rows-requires-clause-room : goal.push_rows-requires-clause-room
push_rows-requires-clause-room c =
    let grown = grown_count c.loop-rows.invariant.grows in
    let default : Bor (List Row) = record { ref_ptr = (0, 0); now = [] } in
    let here = table_derives c.args.tables.now c.loop-rows.rows-index default c.loop-rows-test.true in
    let all = tables_derive c.args.tables.now (c.loop-rows.rows-index + 1) in
    let room = c.requires.room in
    omega (arith, grown, here, all, room)

pub push_rows-requires-clause-derivable : goal.push_rows-requires-clause-derivable
push_rows-requires-clause-derivable c =
    table_derivable c.args.tables.now c.loop-rows.rows-index _ c.loop-rows-test.true c.requires.derivable

pub loop-rows-preserved : goal.loop-rows-preserved
loop-rows-preserved c = record {
  meant = meant_grows c.in_ok-push_rows.ensures.grows c.loop-rows.invariant.meant;
  adds = subst (λ rows. AddsRows c.push_rows.new.vars c.args.names.now rows c.args.all.now c.push_rows.new.all)
      (rows_in_more c.args.tables.now c.loop-rows.rows-index _ c.loop-rows-test.true)
      (adds_joined _ _ _ _ _ _ _ _ _ c.in_ok-push_rows.ensures.grows c.loop-rows.invariant.adds c.in_ok-push_rows.ensures.rows);
  grows = grows_to (table_derives c.args.tables.now c.loop-rows.rows-index _ c.loop-rows-test.true)
      (grows_more c.loop-rows.invariant.grows c.in_ok-push_rows.ensures.grows);
}

pub returns-in_err-push_rows-clause-rows : goal.returns-in_err-push_rows-clause-rows
returns-in_err-push_rows-clause-rows c = IfOk-from_err c.from_residual.result _ c.from_residual.ensures.0

pub returns-in_err-push_rows-clause-grows : goal.returns-in_err-push_rows-clause-grows
returns-in_err-push_rows-clause-grows c = IfOk-from_err c.from_residual.result _ c.from_residual.ensures.0
