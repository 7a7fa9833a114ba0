use Rattle.meta_explain.proofs.Replacing.{operand_later, control_later, second_later}
use Rattle.meta_explain.proofs.laws.what_is_wanted_lets_the_part_pass.Goals as goal

pub returns-clause-operand : goal.returns-clause-operand
returns-clause-operand c = λ tables op c rs vs new_rs new_vs k n p f passes r.
    operand_later tables op c rs vs new_rs new_vs k n f passes r p

pub returns-clause-control : goal.returns-clause-control
returns-clause-control c = λ tables op c d rs vs p. control_later tables op c d rs vs p

pub returns-clause-second : goal.returns-clause-second
returns-clause-second c = λ tables op c d rs vs p. second_later tables op c d rs vs p
