use Rattle.meta_inst.proofs.WithoutSecond.{same_alone, accepts_alone, none_bad, needs_control}
use Rattle.meta_inst.proofs.meaning_laws.without_a_second_control.Goals as goal

pub returns-clause-control : goal.returns-clause-control
returns-clause-control c = same_alone

pub returns-clause-accepts : goal.returns-clause-accepts
returns-clause-accepts c = accepts_alone

pub returns-clause-no_fault : goal.returns-clause-no_fault
returns-clause-no_fault c = none_bad

pub returns-clause-needs_control : goal.returns-clause-needs_control
returns-clause-needs_control c = needs_control
