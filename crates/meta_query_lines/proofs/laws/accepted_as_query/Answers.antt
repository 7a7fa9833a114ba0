use Rattle.meta_query_lines.proofs.AcceptedExplained.{accept_explained}
use Rattle.meta_query_lines.proofs.laws.accepted_as_query.Goals as goal

pub returns : goal.returns
returns c = accept_explained
