use Rattle.meta_gen.proofs.Reading.{refused_result_count, refused_value_count, refused_control, refused_second, refused_results}
use Rattle.meta_gen.proofs.Reading.{values_decide, refused, answer_means}
use Rattle.std.proofs.Common.{rules, arith}
use Rattle.std.proofs.lemmas.Bool.{false≢true}
use Rattle.meta_gen.proofs.opcode_tables.OpcodeTables.accepts2.Goals as goal

pub returns-then-results-result_count-clause-decoding : goal.returns-then-results-result_count-clause-decoding
returns-then-results-result_count-clause-decoding c =
    refused (refused_result_count _ _ _ _ _ _ _ c.in-Some.ensures.entry (λ e. let t = c.result_count.ensures in omega arith))

pub returns-then-results-result_count-clause-meaning : goal.returns-then-results-result_count-clause-meaning
returns-then-results-result_count-clause-meaning c = answer_means _ _ _ _ _ _ _ (returns-then-results-result_count-clause-decoding c)

pub returns-then-values-value_count-clause-decoding : goal.returns-then-values-value_count-clause-decoding
returns-then-values-value_count-clause-decoding c =
    refused (refused_value_count _ _ _ _ _ _ _ c.in-Some.ensures.entry (λ e. let t = c.value_count.ensures in omega arith))

pub returns-then-values-value_count-clause-meaning : goal.returns-then-values-value_count-clause-meaning
returns-then-values-value_count-clause-meaning c = answer_means _ _ _ _ _ _ _ (returns-then-values-value_count-clause-decoding c)

pub returns-then-not-control_fits-clause-decoding : goal.returns-then-not-control_fits-clause-decoding
returns-then-not-control_fits-clause-decoding c =
    refused (refused_control _ _ _ _ _ _ _ c.in-Some.ensures.entry (λ h. false≢true (c.if-not-control_fits.ensures.1 h)))

pub returns-then-not-control_fits-clause-meaning : goal.returns-then-not-control_fits-clause-meaning
returns-then-not-control_fits-clause-meaning c = answer_means _ _ _ _ _ _ _ (returns-then-not-control_fits-clause-decoding c)

pub returns-then-not-control_fits-2-clause-decoding : goal.returns-then-not-control_fits-2-clause-decoding
returns-then-not-control_fits-2-clause-decoding c =
    refused (refused_second _ _ _ _ _ _ _ c.in-Some.ensures.entry (λ h. false≢true (c.if-not-control_fits-2.ensures.1 h)))

pub returns-then-not-control_fits-2-clause-meaning : goal.returns-then-not-control_fits-2-clause-meaning
returns-then-not-control_fits-2-clause-meaning c = answer_means _ _ _ _ _ _ _ (returns-then-not-control_fits-2-clause-decoding c)

pub returns-then-not-all_pass-clause-decoding : goal.returns-then-not-all_pass-clause-decoding
returns-then-not-all_pass-clause-decoding c =
    refused (refused_results _ _ _ _ _ _ _ c.in-Some.ensures.entry (λ h. false≢true (c.if-not-all_pass.ensures.1 h)))

pub returns-then-not-all_pass-clause-meaning : goal.returns-then-not-all_pass-clause-meaning
returns-then-not-all_pass-clause-meaning c = answer_means _ _ _ _ _ _ _ (returns-then-not-all_pass-clause-decoding c)

pub returns-clause-decoding : goal.returns-clause-decoding
returns-clause-decoding c =
    values_decide _ _ _ _ _ _ _ c.in-Some.ensures.entry _ (search rules) (search rules)
    (c.control_fits.ensures.0 c.if-not-control_fits.false) (c.control_fits-2.ensures.0 c.if-not-control_fits-2.false)
    (c.all_pass.ensures.0 c.if-not-all_pass.false) c.all_pass-2.ensures

pub returns-clause-meaning : goal.returns-clause-meaning
returns-clause-meaning c = answer_means _ _ _ _ _ _ _ (returns-clause-decoding c)
