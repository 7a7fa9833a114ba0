use Rattle.std.proofs.Common.{string_bytes, Err, subst, ap, inr}
use Rattle.std.proofs.lemmas.Result.{IfOk-weaker}
use Rattle.meta_query.specs.Recheck.{IsTold}
use Rattle.meta_query.proofs.Told.{told_by}
use Rattle.meta_query.proofs.recheck.recheck.Goals as goal

pub returns-in-Ok : goal.returns-in-Ok
returns-in-Ok c =
    let parts = c.cut_queries-parts.result in
    IfOk-weaker c.told.result _ _
    (λ out told. record {
      text = parts.text.now;
      queries = parts.queries.now;
      cut = c.cut_queries-parts.ensures;
      answer = told_by c.args.tables.now c.in-Ok.read parts.text.now parts.queries.now
          (string_bytes out) c.is_same.result c.is_same.ensures.same (rw c.in-Ok.is at c.read_tables.ensures.found)
          (subst (λ line. IsTold line c.in-Ok.read parts.queries.now (string_bytes out)) c.line_of.ensures told);
    })
    c.told.ensures

pub returns-in-Err-Refused : goal.returns-in-Err-Refused
returns-in-Err-Refused c =
    let parts = c.cut_queries-parts.result in
    IfOk-weaker c.refused.result _ _
    (λ out is. record {
      text = parts.text.now;
      queries = parts.queries.now;
      cut = c.cut_queries-parts.ensures;
      answer = inr (inr (record { reads_none = c.in-Err-Refused.ensures.refused (ap Err c.in-Err-Refused.field-0-is); is = is }));
    })
    c.refused.ensures.line
