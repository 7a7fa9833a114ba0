use Rattle.meta_types.proofs.FirstFault.{one_first_shown}
use Rattle.meta_settings.proofs.Rules.{searchable}
use Rattle.meta_settings.proofs.laws.one_group_fault.Goals as goal

pub returns-clause-same : goal.returns-clause-same
returns-clause-same c = λ d g. one_first_shown (searchable d g)

pub returns-clause-valid : goal.returns-clause-valid
returns-clause-valid c = λ d g e valid first. valid g first.position e first.shows
