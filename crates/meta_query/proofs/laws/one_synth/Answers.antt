use Rattle.meta_query.proofs.OneSynth.{one_declared}
use Rattle.meta_query.proofs.laws.one_synth.Goals as goal

pub returns : goal.returns
returns c = one_declared
