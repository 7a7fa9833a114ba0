use Rattle.meta_audit.proofs.Verdicts.{verdict_of}
use Rattle.meta_audit.proofs.laws.comparisons_are_verdicts.Goals as goal

pub returns : goal.returns
returns c = λ d own t v sets made own_well well h. verdict_of d own t sets made own_well well v h
