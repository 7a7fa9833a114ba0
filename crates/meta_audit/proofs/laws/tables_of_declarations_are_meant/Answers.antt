use Rattle.meta_audit.proofs.Verdicts.{own_meant}
use Rattle.meta_audit.proofs.laws.tables_of_declarations_are_meant.Goals as goal

pub returns : goal.returns
returns c = own_meant
