use Rattle.std.proofs.Common.{◌≡◌, true, false, string_bytes, rules}
use Rattle.std.proofs.lemmas.Result.{on_ok_weaker}
use Rattle.meta_query_lines.specs.Request.{OfFind}
use Rattle.meta_query_lines.proofs.ExplanationLemmas.{of_request, of_nothing}
use Rattle.meta_query_lines.proofs.RequestLemmas.{find_alone, no_results_sought, no_values_sought, requests_find}
use Rattle.meta_query_lines.proofs.explanation.push_find_line.Goals as goal

pub returns-then-not-branch : goal.returns-then-not-branch
returns-then-not-branch c =
    let off : c.in_ok-read_sought.field-0 ≡ false = search rules in
    on_ok_weaker c.push_text.result
    (λ e told line pieces. of_nothing c.args.tables.now told line (string_bytes c.args.out.now) (string_bytes c.push_text.new.out)
    (find_alone line _ pieces) (no_results_sought line _ _ pieces (c.in_ok-read_sought.ensures.none off)) e) c.push_text.ensures

pub returns-then-not-branch-2 : goal.returns-then-not-branch-2
returns-then-not-branch-2 c =
    let off : c.in_ok-read_sought-2.field-0 ≡ false = search rules in
    on_ok_weaker c.push_text-then-not-branch-2.result
    (λ e told line pieces. of_nothing c.args.tables.now told line (string_bytes c.args.out.now) (string_bytes c.push_text-then-not-branch-2.new.out)
    (find_alone line _ pieces) (no_values_sought line _ _ pieces (c.in_ok-read_sought-2.ensures.none off)) e) c.push_text-then-not-branch-2.ensures

pub returns : goal.returns
returns c =
    let results : c.in_ok-read_sought.field-0 ≡ true = search rules in
    let values : c.in_ok-read_sought-2.field-0 ≡ true = search rules in
    on_ok_weaker c.push_find.result
    (λ h told line pieces. of_request c.args.tables.now told line (string_bytes c.args.out.now) (string_bytes c.push_find.new.out) (OfFind _ _)
    (requests_find line _ _ _ _ c.in_ok-read_sought.ensures.known c.in_ok-read_sought-2.ensures.known
    (c.in_ok-read_sought.ensures.found results) (c.in_ok-read_sought-2.ensures.found values) pieces)
    (rw (c.opcodes.ensures, c.deref.ensures.value, c.deref-2.ensures.value) at h)) c.push_find.ensures
