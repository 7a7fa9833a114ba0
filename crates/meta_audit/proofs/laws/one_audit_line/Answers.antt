use Rattle.meta_audit.proofs.OneVerdict.{one_line}
use Rattle.meta_audit.proofs.laws.one_audit_line.Goals as goal

pub returns : goal.returns
returns c = one_line c.a_text_reads_as_one.ensures
