use Rattle.meta_program.proofs.OneWrong.{same_wrong, same_if_any}
use Rattle.meta_program.proofs.laws.one_wrong.Goals as goal

pub returns-clause-case : goal.returns-clause-case
returns-clause-case c = same_wrong

pub returns-clause-any : goal.returns-clause-any
returns-clause-any c = same_if_any
