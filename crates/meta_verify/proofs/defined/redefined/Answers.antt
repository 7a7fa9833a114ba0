use Rattle.std.proofs.Common.{sym, ◌∙◌}
use Rattle.meta_verify.specs.Defined.{environment_of}
use Rattle.meta_verify.proofs.EnvironmentLemmas.{seen_next, redefined_next, not_before}
use Rattle.meta_verify.proofs.defined.redefined.Goals as goal

pub loop-r-preserved : goal.loop-r-preserved
loop-r-preserved c = record {
  seen = seen_next c.loop-r.seen c.insert.new.self (environment_of c.args.types.now) c.args.results.now
      c.loop-r.r-index _ c.loop-r-test.true c.in_ok-is_new.ensures.updates.0 c.loop-r.invariant.seen;
  left = redefined_next (environment_of c.args.types.now) c.args.results.now c.loop-r.r-index _ _ c.loop-r-test.true
      (not_before _ _ _ c.defined_before-before.ensures (sym c.is_some.ensures ∙ c.if-is_some.false))
      (sym c.if-not-is_new.false ∙ c.in_ok-is_new.ensures.added) (c.loop-r.invariant.seen _) c.loop-r.invariant.left;
}
