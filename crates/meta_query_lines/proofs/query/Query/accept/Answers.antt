use Rattle.meta_query_lines.proofs.FormLemmas.{accept_alone}
use Rattle.meta_query_lines.proofs.query.Query.accept.Goals as goal

pub returns-in-Some-clause-found : goal.returns-in-Some-clause-found
returns-in-Some-clause-found c = λ line pieces named. rw c.in-Some.is at (c.in_ok-question.ensures.found line pieces named)

pub returns-in-None-clause-none : goal.returns-in-None-clause-none
returns-in-None-clause-none c = λ line pieces. accept_alone line _ _ _ _ pieces
    (rw c.in-None.is at (c.in_ok-question.ensures.none line pieces))
