use Rattle.meta_verify.proofs.StatementLemmas.{one_statement}
use Rattle.meta_verify.proofs.laws.one_statement.Goals as goal

pub returns : goal.returns
returns c = λ line s t h k. one_statement line s t h k
