use Rattle.std.proofs.Common.{None, arith, sym, ◌∙◌}
use Rattle.std.proofs.lemmas.Bool.{false≢true}
use Rattle.std.proofs.lemmas.Option.{slice_get-get_or}
use Rattle.std.proofs.lemmas.Grind.{elements}
use Rattle.meta_explain.proofs.searching.all_can_pass.Goals as goal

pub loop-k-preserved : goal.loop-k-preserved
loop-k-preserved c = grind (arith, elements)

pub returns-then-not-can_pass : goal.returns-then-not-can_pass
returns-then-not-can_pass c = (
  λ e. absurd (false≢true e),
  λ all. absurd (false≢true (sym c.if-not-can_pass.true ∙ c.can_pass.ensures.1
      (all c.loop-k.k _ (slice_get-get_or c.args.asked.now c.loop-k.k None c.loop-k-test.true)))),
)

pub returns : goal.returns
returns c = grind (arith, elements)
