use Rattle.meta_query_lines.proofs.InferenceLemmas.{no_infer_control, asks_inference}
use Rattle.meta_query_lines.proofs.inference.Inference.of.Goals as goal

pub returns-in_err-controls-clause-found : goal.returns-in_err-controls-clause-found
returns-in_err-controls-clause-found c = λ line pieces named. rw c.from_residual.ensures tt

pub returns-in_err-controls-clause-none : goal.returns-in_err-controls-clause-none
returns-in_err-controls-clause-none c =
    λ line pieces. rw c.from_residual.ensures (no_infer_control line _ _ pieces c.in_err-controls.ensures.none)

pub returns-clause-found : goal.returns-clause-found
returns-clause-found c = λ line pieces named.
    asks_inference line _ _ c.in_ok-controls.controls.control c.in_ok-controls.controls.second c.in_ok-controls.ensures.known
    c.in_ok-controls.ensures.second_known c.in_ok-controls.ensures.after pieces named c.in_ok-controls.ensures.found

pub returns-clause-none : goal.returns-clause-none
returns-clause-none c = λ line pieces. tt
