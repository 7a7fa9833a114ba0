use Rattle.std.proofs.Common.{◌≡◌, true, false, rules}
use Rattle.meta_query_lines.proofs.question.Question.of.Goals as goal

pub returns-then-not-branch-clause-none : goal.returns-then-not-branch-clause-none
returns-then-not-branch-clause-none c =
    let off : c.in_ok-read.field-0 ≡ false = search rules in
    λ line pieces. c.in_ok-read.ensures.none off line pieces

pub returns-clause-found : goal.returns-clause-found
returns-clause-found c =
    let on : c.in_ok-read.field-0 ≡ true = search rules in
    λ line pieces named. c.in_ok-read.ensures.found on line pieces named
