use Rattle.std.proofs.lemmas.Result.{IfOk-weaker}
use Rattle.meta_query_lines.proofs.LineParts.{names_listed}
use Rattle.meta_query_lines.proofs.setting_line.listed.Goals as goal

pub returns : goal.returns
returns c = IfOk-weaker c.join.result _ _ (λ t e. names_listed c.args.names.now _ c.if-is_empty.ensures e) c.join.ensures.ok
