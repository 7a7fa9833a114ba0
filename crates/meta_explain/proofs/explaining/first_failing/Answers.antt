use Rattle.std.proofs.Common.{sym, ◌∙◌, rules, arith}
use Rattle.std.proofs.lemmas.Bool.{false≢true}
use Rattle.meta_gen.specs.Constraint.{entry_of}
use Rattle.meta_explain.proofs.Failing.{fails_control, fails_second, fails_results, fails_values, fails_operand, fails_nowhere}
use Rattle.meta_explain.proofs.explaining.first_failing.Goals as goal

pub returns-then-not-control_fits-clause-some : goal.returns-then-not-control_fits-clause-some
returns-then-not-control_fits-clause-some c =
    fails_control _ _ _ _ _ (λ h. false≢true (sym c.if-not-control_fits.true ∙ c.control_fits.ensures.1 h))

pub returns-then-not-control_fits-2-clause-some : goal.returns-then-not-control_fits-2-clause-some
returns-then-not-control_fits-2-clause-some c =
    fails_second _ _ _ _ _ (c.control_fits.ensures.0 c.if-not-control_fits.false)
    (λ h. false≢true (sym c.if-not-control_fits-2.true ∙ c.control_fits-2.ensures.1 h))

pub returns-then-results-result_count-clause-some : goal.returns-then-results-result_count-clause-some
returns-then-results-result_count-clause-some c =
    fails_results _ _ _ _ _ (c.control_fits.ensures.0 c.if-not-control_fits.false)
    (c.control_fits-2.ensures.0 c.if-not-control_fits-2.false)
    (λ e. let t = c.result_count.ensures in omega arith)

pub returns-then-values-value_count-clause-some : goal.returns-then-values-value_count-clause-some
returns-then-values-value_count-clause-some c =
    fails_values _ _ _ _ _ (c.control_fits.ensures.0 c.if-not-control_fits.false) (c.control_fits-2.ensures.0 c.if-not-control_fits-2.false)
    (search rules) (λ e. let t = c.value_count.ensures in omega arith)

pub returns-in_err-operand-clause-none : goal.returns-in_err-operand-clause-none
returns-in_err-operand-clause-none c =
    rw c.from_residual.ensures (fails_nowhere c.args.tables.now (entry_of c.args.entry) c.args.controls c.args.results.now
    c.args.values.now (c.control_fits.ensures.0 c.if-not-control_fits.false) (c.control_fits-2.ensures.0 c.if-not-control_fits-2.false)
    (search rules) (search rules) c.in_err-operand.ensures.none)

pub returns-clause-some : goal.returns-clause-some
returns-clause-some c =
    fails_operand _ _ _ _ _ (c.control_fits.ensures.0 c.if-not-control_fits.false)
    (c.control_fits-2.ensures.0 c.if-not-control_fits-2.false)
    (search rules) (search rules) _ c.in_ok-operand.ensures.some
