use Rattle.meta_query_lines.proofs.QueryLemmas.{one_query}
use Rattle.meta_query_lines.proofs.query.asks_one_query.Goals as goal

pub returns : goal.returns
returns c = one_query
