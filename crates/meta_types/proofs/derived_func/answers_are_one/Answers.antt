use Rattle.meta_types.proofs.OneAnswer.{one}
use Rattle.meta_types.proofs.derived_func.answers_are_one.Goals as goal

pub returns : goal.returns
returns c = one
