use Rattle.std.proofs.Common.{◌+◌, length, sym, ap, arith}
use Rattle.std.proofs.lemmas.Result.{IfOk-from_err}
use Rattle.meta_lists.proofs.Pushed.{one_longer}
use Rattle.meta_query.proofs.Growing.{none_yet, one_more, extends_count, all_fit, synth_made}
use Rattle.meta_query.proofs.generator.synth.Goals as goal

pub loop-place-init : goal.loop-place-init
loop-place-init c = record {
  instructions = none_yet c.new-vars.ensures c.new-instructions.ensures;
  count = ap length c.new-instructions.ensures;
  few = omega (arith, ap length c.new-vars.ensures);
}

pub instruction-requires-clause-room : goal.instruction-requires-clause-room
instruction-requires-clause-room c = omega (arith, c.loop-place.invariant.few, c.loop-place-test.true)

pub loop-place-preserved : goal.loop-place-preserved
loop-place-preserved c = record {
  instructions = one_more c.loop-place.invariant.instructions c.in_ok-builder.ensures.grows c.in_ok-builder.ensures.added
      (ap (λ k. k + 1) (sym c.loop-place.invariant.count)) c.in_ok-builder.ensures.instruction c.in_ok-push.ensures;
  count = omega (arith, one_longer _ _ _ c.in_ok-push.ensures, c.loop-place.invariant.count);
  few = omega (arith, extends_count c.in_ok-builder.ensures.grows, c.loop-place.invariant.few);
}

pub new-requires-3 : goal.new-requires-3
new-requires-3 c = all_fit c.in_ok-formats.ensures.added c.loop-place.invariant.instructions

pub returns-clause-valid : goal.returns-clause-valid
returns-clause-valid c = c.synth_is_valid.ensures c.args.n c.new-3.result
    (synth_made c.new-3.ensures c.new-2.ensures.items c.in_ok-formats.ensures.added c.loop-place.invariant.instructions
    (omega (arith, c.loop-place.invariant.count, c.loop-place-test.false, c.loop-place.auto.place-end))
    c.len-count.ensures.registry
    (omega (arith, c.loop-place.invariant.few, c.loop-place.auto.place-end)))

pub returns-in_err-formats-clause-declarations : goal.returns-in_err-formats-clause-declarations
returns-in_err-formats-clause-declarations c = IfOk-from_err c.from_residual.result _ c.from_residual.ensures.0

pub returns-in_err-formats-clause-valid : goal.returns-in_err-formats-clause-valid
returns-in_err-formats-clause-valid c = IfOk-from_err c.from_residual.result _ c.from_residual.ensures.0

pub returns-in_err-builder-clause-declarations : goal.returns-in_err-builder-clause-declarations
returns-in_err-builder-clause-declarations c =
    IfOk-from_err c.from_residual-in_err-builder.result _ c.from_residual-in_err-builder.ensures.0

pub returns-in_err-builder-clause-valid : goal.returns-in_err-builder-clause-valid
returns-in_err-builder-clause-valid c = IfOk-from_err c.from_residual-in_err-builder.result _ c.from_residual-in_err-builder.ensures.0

pub returns-in_err-push-clause-declarations : goal.returns-in_err-push-clause-declarations
returns-in_err-push-clause-declarations c = IfOk-from_err c.from_residual-in_err-push.result _ c.from_residual-in_err-push.ensures.0

pub returns-in_err-push-clause-valid : goal.returns-in_err-push-clause-valid
returns-in_err-push-clause-valid c = IfOk-from_err c.from_residual-in_err-push.result _ c.from_residual-in_err-push.ensures.0
