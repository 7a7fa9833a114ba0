use Rattle.std.proofs.Common.{List, ◌∙◌, ℕ, ap, string_bytes}
use Rattle.std.proofs.lemmas.Result.{IfOk-from_err, IfOk-weaker}
use Rattle.meta_query.specs.Summary.{lengths_text, summary_line}
use Rattle.meta_query.proofs.Summed.{of_synth}
use Rattle.meta_query.proofs.report.summary.Goals as goal

pub returns-clause-of_synth : goal.returns-clause-of_synth
returns-clause-of_synth c =
    let counts = c.of-counts.ensures in
    let found = c.of-counts.result.found in
    let accepted = c.of-counts.result.accepted in
    let lengths = c.as_str.ensures.value ∙ c.in_ok-lengths.ensures
    ∙ (λ i. lengths_text (counts.opcodes i) (counts.type_sets i) (counts.constraints i) (counts.slots i)) in
    IfOk-weaker c.line.result _ _ (λ line e d hold is made. of_synth c.args.n d c.args.tables.now (string_bytes line) hold is made (record {
      found = found;
      are_found = counts.found;
      accepted = accepted;
      are_accepted = counts.accepted;
      is = e ∙ ap (λ (text : List ℕ). summary_line c.args.n text found accepted) lengths;
    })) c.line.ensures

pub returns-in_err-lengths-clause-line : goal.returns-in_err-lengths-clause-line
returns-in_err-lengths-clause-line c = IfOk-from_err c.from_residual.result _ c.from_residual.ensures.0

pub returns-in_err-lengths-clause-of_synth : goal.returns-in_err-lengths-clause-of_synth
returns-in_err-lengths-clause-of_synth c = IfOk-from_err c.from_residual.result _ c.from_residual.ensures.0
