use Rattle.std.proofs.Common.{◌∷◌, ◌∙◌, ap, codes, string_bytes}
use Rattle.std.proofs.lemmas.Result.{on_ok_weaker}
use Rattle.meta_query_lines.specs.Request.{OfTypes}
use Rattle.meta_query_lines.specs.RequestForm.{optional_word}
use Rattle.std.specs.Prelude.{None, Some}
use Rattle.meta_query_lines.proofs.ExplanationLemmas.{of_request, of_nothing}
use Rattle.meta_query_lines.proofs.RequestLemmas.{types_alone, no_controls, requests_types, requests_under}
use Rattle.meta_query_lines.proofs.explanation.push_types_line.Goals as goal

pub returns-in_default : goal.returns-in_default
returns-in_default c =
    on_ok_weaker c.push_types.result
    (λ h told line pieces named. of_request c.args.tables.now told line (string_bytes c.args.out.now) (string_bytes c.push_types.new.out)
    (OfTypes _ None) (requests_types line _ (pieces ∙ ap (λ o. codes "types" ∷ c.args.words.name.now ∷ optional_word o) c.in_default.is) named) (rw c.opcodes.ensures at h))
    c.push_types.ensures

pub returns-in_default-parse_control : goal.returns-in_default-parse_control
returns-in_default-parse_control c =
    on_ok_weaker c.push_text.result
    (λ e told line pieces named.
    let words = pieces ∙ ap (λ o. codes "types" ∷ c.args.words.name.now ∷ optional_word o) c.in-Some.is in
    of_nothing c.args.tables.now told line (string_bytes c.args.out.now) (string_bytes c.push_text.new.out)
    (types_alone line _ words) (no_controls line _ _ words c.in_default-parse_control.ensures.none) e) c.push_text.ensures

pub returns : goal.returns
returns c =
    on_ok_weaker c.push_types-2.result
    (λ h told line pieces named.
    let words = pieces ∙ ap (λ o. codes "types" ∷ c.args.words.name.now ∷ optional_word o) c.in-Some.is in
    of_request c.args.tables.now told line (string_bytes c.args.out.now) (string_bytes c.push_types-2.new.out)
    (OfTypes _ (Some _)) (requests_under line _ _ _ (record {
      control = c.in-Some-parse_control.ensures.known;
      second = c.in-Some-parse_control.ensures.second_known;
      after = c.in-Some-parse_control.ensures.after;
    }) c.in-Some-parse_control.ensures.found words named) (rw c.opcodes-2.ensures at h)) c.push_types-2.ensures
