use Rattle.meta_program.proofs.OneOver.{same_over}
use Rattle.meta_program.proofs.laws.one_over.Goals as goal

pub returns-clause-path : goal.returns-clause-path
returns-clause-path c = λ words a b h g. (same_over words a b h g).0

pub returns-clause-asked : goal.returns-clause-asked
returns-clause-asked c = λ words a b h g. (same_over words a b h g).1
