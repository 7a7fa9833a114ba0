use Rattle.meta_verify.proofs.Meaning.{numbered_types, mistake_means, right_means}
use Rattle.meta_verify.proofs.laws.mistakes_mean.Goals as goal

pub returns-clause-types : goal.returns-clause-types
returns-clause-types c = numbered_types

pub returns-clause-mistake : goal.returns-clause-mistake
returns-clause-mistake c = λ d t valid made means env named s can reason. mistake_means d t made means valid env named s can reason

pub returns-clause-right : goal.returns-clause-right
returns-clause-right c = λ d t valid made means env named s can. right_means d t made means valid env named s can
