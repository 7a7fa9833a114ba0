use Rattle.meta_query_lines.specs.Query.{OfInference}
use Rattle.meta_query_lines.proofs.FormLemmas.{accept_infers_nothing, setting_infers_nothing}
use Rattle.meta_query_lines.proofs.inference.Inference.parse.Goals as goal

pub returns-in_err-form-clause-none : goal.returns-in_err-form-clause-none
returns-in_err-form-clause-none c = rw c.from_residual.ensures (λ q h. c.in_err-form.ensures.none (OfInference q) h)

pub returns-in-Infer-clause-found : goal.returns-in-Infer-clause-found
returns-in-Infer-clause-found c =
    c.of.ensures.found c.args.line.now (rw c.in-Infer.is at c.in_ok-form.ensures.words) (rw c.in-Infer.is at c.in_ok-form.ensures.named)

pub returns-in-Infer-clause-none : goal.returns-in-Infer-clause-none
returns-in-Infer-clause-none c = c.of.ensures.none c.args.line.now (rw c.in-Infer.is at c.in_ok-form.ensures.words)

pub returns-in-Accept-clause-none : goal.returns-in-Accept-clause-none
returns-in-Accept-clause-none c = accept_infers_nothing c.args.line.now _ _ _ _ (rw c.in-Accept.is at c.in_ok-form.ensures.words)

pub returns-in-Setting-clause-none : goal.returns-in-Setting-clause-none
returns-in-Setting-clause-none c = setting_infers_nothing c.args.line.now _ (rw c.in-Setting.is at c.in_ok-form.ensures.words)
