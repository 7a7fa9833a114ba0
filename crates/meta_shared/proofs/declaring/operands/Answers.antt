use Rattle.std.proofs.Common.{subst, sym}
use Rattle.std.proofs.lemmas.Result.{IfOk-from_err}
use Rattle.meta_shared.specs.Rows.{AreOperandsOfRows}
use Rattle.meta_shared.proofs.Growing.{meant_grows, grows_more, grows_to, operands_grow}
use Rattle.meta_shared.proofs.Made.{operands_more, derived_more}
use Rattle.meta_shared.proofs.declaring.operands.Goals as goal

pub loop-row-preserved : goal.loop-row-preserved
loop-row-preserved c = record {
  meant = meant_grows c.in_ok-operand.ensures.grows c.loop-row.invariant.meant;
  operands = subst (AreOperandsOfRows _ _ _) (sym c.in_ok-push.ensures.items)
      (operands_more _ _ c.args.rows.now c.loop-row.row-index _ _ _ c.loop-row-test.true
      (operands_grow _ _ _ c.in_ok-operand.ensures.grows c.loop-row.invariant.operands) c.in_ok-operand.ensures.operand);
  grows = grows_to (derived_more c.args.rows.now c.loop-row.row-index _ c.loop-row-test.true)
      (grows_more c.loop-row.invariant.grows c.in_ok-operand.ensures.grows);
}

pub returns-in_err-operand-clause-operands : goal.returns-in_err-operand-clause-operands
returns-in_err-operand-clause-operands c = IfOk-from_err c.from_residual.result _ c.from_residual.ensures.0

pub returns-in_err-operand-clause-grows : goal.returns-in_err-operand-clause-grows
returns-in_err-operand-clause-grows c = IfOk-from_err c.from_residual.result _ c.from_residual.ensures.0

pub returns-in_err-push-clause-operands : goal.returns-in_err-push-clause-operands
returns-in_err-push-clause-operands c = IfOk-from_err c.from_residual-in_err-push.result _ c.from_residual-in_err-push.ensures.0

pub returns-in_err-push-clause-grows : goal.returns-in_err-push-clause-grows
returns-in_err-push-clause-grows c = IfOk-from_err c.from_residual-in_err-push.result _ c.from_residual-in_err-push.ensures.0

pub operand-requires-clause-meant : goal.operand-requires-clause-meant
operand-requires-clause-meant c = c.loop-row.invariant.meant
