use Rattle.std.proofs.Common.{Err, ap, inr}
use Rattle.std.proofs.lemmas.Result.{IfOk-weaker}
use Rattle.meta_audit.proofs.answering.audit_line.Goals as goal

pub returns-in-Err-Refused : goal.returns-in-Err-Refused
returns-in-Err-Refused c =
    IfOk-weaker c.refused.result _ _ (λ out e. inr (record {
      reads_none = c.in-Err-Refused.ensures.refused (ap Err c.in-Err-Refused.field-0-is);
      is = e;
    })) c.refused.ensures.line
