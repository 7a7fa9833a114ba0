use Rattle.meta_query.proofs.OneSynth.{one_line}
use Rattle.meta_query.proofs.laws.one_summary.Goals as goal

pub returns : goal.returns
returns c = one_line
