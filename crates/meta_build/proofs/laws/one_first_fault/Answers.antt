use Rattle.meta_build.proofs.FirstOfAll.{one_of_all, none_of_all}
use Rattle.meta_build.proofs.laws.one_first_fault.Goals as goal

pub returns-clause-same : goal.returns-clause-same
returns-clause-same c = one_of_all c.one_group_fault.ensures.same c.one_group_fault.ensures.valid

pub returns-clause-valid : goal.returns-clause-valid
returns-clause-valid c = none_of_all c.one_group_fault.ensures.same c.one_group_fault.ensures.valid
