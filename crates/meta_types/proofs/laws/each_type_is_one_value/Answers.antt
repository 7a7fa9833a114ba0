use Rattle.meta_types.proofs.Typed.{typed}
use Rattle.meta_types.proofs.Values.{every_value, one_value}
use Rattle.meta_types.proofs.laws.each_type_is_one_value.Goals as goal

pub returns : goal.returns
returns c = record { is_type = typed; every = every_value; one = one_value }
