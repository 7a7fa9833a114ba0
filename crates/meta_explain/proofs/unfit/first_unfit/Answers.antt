use Rattle.std.proofs.Common.{arith, sym, ◌∙◌}
use Rattle.std.proofs.lemmas.Bool.{false≢true}
use Rattle.std.proofs.lemmas.Option.{slice_get-get_or}
use Rattle.std.proofs.lemmas.Grind.{elements}
use Rattle.meta_explain.proofs.unfit.first_unfit.Goals as goal

pub loop-k-preserved : goal.loop-k-preserved
loop-k-preserved c = grind (arith, elements)

pub returns-then-not-operand_passes-clause-some : goal.returns-then-not-operand_passes-clause-some
returns-then-not-operand_passes-clause-some c = record {
  number = _;
  at = slice_get-get_or c.args.numbers.now c.loop-k.k 0 c.loop-k-test.true;
  fails = λ p. false≢true (sym c.if-not-operand_passes.true ∙ c.operand_passes.ensures.1 p);
  before = c.loop-k.invariant;
}

pub returns-clause-none : goal.returns-clause-none
returns-clause-none c = grind (arith, elements)
