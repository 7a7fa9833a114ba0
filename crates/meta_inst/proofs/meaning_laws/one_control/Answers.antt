use Rattle.meta_inst.proofs.OneControl.{same_control, control_not_missing}
use Rattle.meta_inst.proofs.meaning_laws.one_control.Goals as goal

pub returns-clause-same : goal.returns-clause-same
returns-clause-same c = same_control

pub returns-clause-no_fault : goal.returns-clause-no_fault
returns-clause-no_fault c = control_not_missing
