use Rattle.meta_explain.proofs.Failing.{refused, one_fails_first}
use Rattle.meta_explain.proofs.laws.a_refusal_fails.Goals as goal

pub returns-clause-refused : goal.returns-clause-refused
returns-clause-refused c = refused

pub returns-clause-one : goal.returns-clause-one
returns-clause-one c = one_fails_first
