use Rattle.meta_explain.proofs.Told.{one_told}
use Rattle.meta_explain.proofs.laws.one_explanation.Goals as goal

pub returns : goal.returns
returns c = one_told
