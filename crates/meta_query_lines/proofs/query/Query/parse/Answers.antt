use Rattle.std.proofs.lemmas.Result.{IfOk-weaker}
use Rattle.meta_query_lines.proofs.QueryLemmas.{asks_setting}
use Rattle.meta_query_lines.proofs.query.Query.parse.Goals as goal

pub returns-in-Accept-clause-found : goal.returns-in-Accept-clause-found
returns-in-Accept-clause-found c =
    IfOk-weaker c.accept.result _ _ (λ o f. f c.args.line.now (rw c.in-Accept.is at c.in-Some.ensures.words)
    (rw c.in-Accept.is at c.in-Some.ensures.named)) c.accept.ensures.found

pub returns-in-Accept-clause-none : goal.returns-in-Accept-clause-none
returns-in-Accept-clause-none c =
    IfOk-weaker c.accept.result _ _ (λ o f. f c.args.line.now (rw c.in-Accept.is at c.in-Some.ensures.words)) c.accept.ensures.none

pub returns-in-Infer-clause-found : goal.returns-in-Infer-clause-found
returns-in-Infer-clause-found c =
    c.infer.ensures.found c.args.line.now (rw c.in-Infer.is at c.in-Some.ensures.words) (rw c.in-Infer.is at c.in-Some.ensures.named)

pub returns-in-Infer-clause-none : goal.returns-in-Infer-clause-none
returns-in-Infer-clause-none c = c.infer.ensures.none c.args.line.now (rw c.in-Infer.is at c.in-Some.ensures.words)

pub returns-in-Setting-clause-found : goal.returns-in-Setting-clause-found
returns-in-Setting-clause-found c =
    asks_setting c.args.line.now _ (rw c.in-Setting.is at c.in-Some.ensures.words) (rw c.in-Setting.is at c.in-Some.ensures.named)
