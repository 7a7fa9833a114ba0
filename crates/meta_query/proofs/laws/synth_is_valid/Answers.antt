use Rattle.meta_query.proofs.Valid.{is_valid}
use Rattle.meta_query.proofs.laws.synth_is_valid.Goals as goal

pub returns : goal.returns
returns c = λ n d is. is_valid n d is
