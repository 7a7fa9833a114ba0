use Rattle.std.proofs.lemmas.Result.{IfOk-from_err}
use Rattle.meta_shared.proofs.Growing.{meant_grows, grows_more, grows_to}
use Rattle.meta_shared.proofs.Made.{adds_one_row, rows_derive_more}
use Rattle.meta_shared.proofs.declaring.push_rows.Goals as goal

pub loop-row-preserved : goal.loop-row-preserved
loop-row-preserved c = record {
  meant = meant_grows c.in_ok-instruction.ensures.grows c.loop-row.invariant.meant;
  adds = adds_one_row _ _ _ _ c.args.rows.now c.loop-row.row-index _ _ _ _ _ c.loop-row-test.true
      c.in_ok-instruction.ensures.grows c.loop-row.invariant.adds c.in_ok-instruction.ensures.builder c.in_ok-push.ensures;
  grows = grows_to (rows_derive_more c.args.rows.now c.loop-row.row-index _ c.loop-row-test.true)
      (grows_more c.loop-row.invariant.grows c.in_ok-instruction.ensures.grows);
}

pub returns-in_err-instruction-clause-rows : goal.returns-in_err-instruction-clause-rows
returns-in_err-instruction-clause-rows c = IfOk-from_err c.from_residual.result _ c.from_residual.ensures.0

pub returns-in_err-instruction-clause-grows : goal.returns-in_err-instruction-clause-grows
returns-in_err-instruction-clause-grows c = IfOk-from_err c.from_residual.result _ c.from_residual.ensures.0

pub returns-in_err-push-clause-rows : goal.returns-in_err-push-clause-rows
returns-in_err-push-clause-rows c = IfOk-from_err c.from_residual-in_err-push.result _ c.from_residual-in_err-push.ensures.0

pub returns-in_err-push-clause-grows : goal.returns-in_err-push-clause-grows
returns-in_err-push-clause-grows c = IfOk-from_err c.from_residual-in_err-push.result _ c.from_residual-in_err-push.ensures.0

pub instruction-requires-clause-meant : goal.instruction-requires-clause-meant
instruction-requires-clause-meant c = c.loop-row.invariant.meant
