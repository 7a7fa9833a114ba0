use Rattle.meta_inst.proofs.OneOwnFault.{one_own_first}
use Rattle.meta_inst.proofs.laws.one_own_fault.Goals as goal

pub returns-clause-same : goal.returns-clause-same
returns-clause-same c = one_own_first

pub returns-clause-well_made : goal.returns-clause-well_made
returns-clause-well_made c = λ vars formats b n e well h. well n h.position e h.shows
