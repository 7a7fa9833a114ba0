use Rattle.meta_query.proofs.Marks.{same_cut}
use Rattle.meta_query.proofs.laws.one_cut.Goals as goal

pub returns : goal.returns
returns c = same_cut
