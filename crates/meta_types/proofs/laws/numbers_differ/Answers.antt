use Rattle.meta_types.proofs.Numbers.{one_number}
use Rattle.meta_types.proofs.laws.numbers_differ.Goals as goal

pub returns : goal.returns
returns c = one_number
