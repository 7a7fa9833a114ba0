use Rattle.std.proofs.lemmas.Result.{IfOk-weaker}
use Rattle.meta_query_lines.specs.Query.{OfQuestion}
use Rattle.meta_query_lines.proofs.FormLemmas.{infer_accepts_nothing, setting_accepts_nothing}
use Rattle.meta_query_lines.proofs.question.Question.parse.Goals as goal

pub returns-in_default-clause-none : goal.returns-in_default-clause-none
returns-in_default-clause-none c = λ q h. c.in_default.ensures.none (OfQuestion q) h

pub returns-in-Accept-clause-found : goal.returns-in-Accept-clause-found
returns-in-Accept-clause-found c =
    IfOk-weaker c.of.result _ _ (λ o f. f c.args.line.now (rw c.in-Accept.is at c.in-Some.ensures.words)
    (rw c.in-Accept.is at c.in-Some.ensures.named)) c.of.ensures.found

pub returns-in-Accept-clause-none : goal.returns-in-Accept-clause-none
returns-in-Accept-clause-none c =
    IfOk-weaker c.of.result _ _ (λ o f. f c.args.line.now (rw c.in-Accept.is at c.in-Some.ensures.words)) c.of.ensures.none

pub returns-in-Infer-clause-none : goal.returns-in-Infer-clause-none
returns-in-Infer-clause-none c = infer_accepts_nothing c.args.line.now _ _ (rw c.in-Infer.is at c.in-Some.ensures.words)

pub returns-in-Setting-clause-none : goal.returns-in-Setting-clause-none
returns-in-Setting-clause-none c = setting_accepts_nothing c.args.line.now _ (rw c.in-Setting.is at c.in-Some.ensures.words)
