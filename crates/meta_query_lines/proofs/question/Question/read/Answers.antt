use Rattle.std.proofs.Common.{◌≡◌, true, false, rules}
use Rattle.meta_query_lines.proofs.QuestionLemmas.{no_control, no_results, no_values, asks}
use Rattle.meta_query_lines.proofs.question.Question.read.Goals as goal

pub returns-in_default-clause-none : goal.returns-in_default-clause-none
returns-in_default-clause-none c = λ e line pieces q h. no_control line _ _ _ _ pieces q h c.in_default.ensures.none

pub returns-then-not-branch-clause-none : goal.returns-then-not-branch-clause-none
returns-then-not-branch-clause-none c =
    let off : c.in_ok-read_types.field-0 ≡ false = search rules in
    λ e line pieces q h. no_results line _ _ _ _ pieces q h (c.in_ok-read_types.ensures.none off)

pub returns-then-not-branch-2-clause-none : goal.returns-then-not-branch-2-clause-none
returns-then-not-branch-2-clause-none c =
    let off : c.in_ok-read_types-2.field-0 ≡ false = search rules in
    λ e line pieces q h. no_values line _ _ _ _ pieces q h (c.in_ok-read_types-2.ensures.none off)

pub returns-clause-found : goal.returns-clause-found
returns-clause-found c =
    let results : c.in_ok-read_types.field-0 ≡ true = search rules in
    let values : c.in_ok-read_types-2.field-0 ≡ true = search rules in
    λ e line pieces named. asks line _ _ _ _ c.in-Some.controls.control c.in-Some.controls.second
    c.read_types.new.numbers.items c.read_types-2.new.numbers.items
    c.in-Some.ensures.known c.in-Some.ensures.second_known c.in-Some.ensures.after c.in_ok-read_types.ensures.known
    c.in_ok-read_types-2.ensures.known
    pieces named
    c.in-Some.ensures.found (c.in_ok-read_types.ensures.found results) (c.in_ok-read_types-2.ensures.found values)
