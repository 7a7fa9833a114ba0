use Rattle.meta_query_lines.proofs.FormLemmas.{infer_alone}
use Rattle.meta_query_lines.proofs.query.Query.infer.Goals as goal

pub returns-in_err-inference-clause-found : goal.returns-in_err-inference-clause-found
returns-in_err-inference-clause-found c = λ line pieces named. rw c.from_residual.ensures tt

pub returns-in_err-inference-clause-none : goal.returns-in_err-inference-clause-none
returns-in_err-inference-clause-none c =
    λ line pieces. rw c.from_residual.ensures (infer_alone line _ _ pieces (c.in_err-inference.ensures.none line pieces))

pub returns-clause-found : goal.returns-clause-found
returns-clause-found c = λ line pieces named. c.in_ok-inference.ensures.found line pieces named

pub returns-clause-none : goal.returns-clause-none
returns-clause-none c = λ line pieces. tt
