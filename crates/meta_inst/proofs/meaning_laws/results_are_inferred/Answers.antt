use Rattle.meta_inst.proofs.Inferring.{result_inferred, only_inferred, control_typed, types_fit}
use Rattle.meta_inst.proofs.meaning_laws.results_are_inferred.Goals as goal

pub returns-clause-inferred : goal.returns-clause-inferred
returns-clause-inferred c = result_inferred

pub returns-clause-only : goal.returns-clause-only
returns-clause-only c = only_inferred

pub returns-clause-controls : goal.returns-clause-controls
returns-clause-controls c = control_typed

pub returns-clause-fit : goal.returns-clause-fit
returns-clause-fit c = types_fit
