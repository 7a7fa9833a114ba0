use Rattle.meta_query_lines.proofs.RequestLemmas as lemma
use Rattle.meta_query_lines.proofs.laws.one_request.Goals as goal

pub returns-clause-one : goal.returns-clause-one
returns-clause-one c = lemma.one_request

pub returns-clause-apart : goal.returns-clause-apart
returns-clause-apart c = lemma.asks_no_request
