use Rattle.meta_explain.proofs.Least.{least_has, is_least, exactly_one}
use Rattle.meta_explain.proofs.laws.sets_are_the_least.Goals as goal

pub returns-clause-all : goal.returns-clause-all
returns-clause-all c = least_has

pub returns-clause-least : goal.returns-clause-least
returns-clause-least c = is_least

pub returns-clause-exactly : goal.returns-clause-exactly
returns-clause-exactly c = exactly_one
