use Rattle.std.proofs.Common.{ap}
use Rattle.meta_typevar.specs.Registry.{variable_at}
use Rattle.meta_typevar.proofs.Variables.{one_variable}
use Rattle.meta_typevar.proofs.laws.equal_variables.Goals as goal

pub returns : goal.returns
returns c = λ vars n m registry l j. (λ e. ap (variable_at vars) e, λ e. one_variable vars registry n m l j e)
