use Rattle.meta_inst.proofs.Only.{only_constraint}
use Rattle.meta_inst.proofs.Constrained.{has_constraint, constraint_not_bad}
use Rattle.meta_inst.proofs.meaning_laws.one_constraint.Goals as goal

pub returns-clause-same : goal.returns-clause-same
returns-clause-same c = only_constraint

pub returns-clause-no_fault : goal.returns-clause-no_fault
returns-clause-no_fault c = constraint_not_bad

pub returns-clause-some : goal.returns-clause-some
returns-clause-some c = has_constraint
