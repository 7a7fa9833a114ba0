use Rattle.std.proofs.Common.{Some, refl}
use Rattle.meta_explain.proofs.Failing.{accepted_types, operand_type}
use Rattle.meta_explain.proofs.Typed.{control_typed}
use Rattle.meta_explain.proofs.laws.types_alone_pass.Goals as goal

pub returns-clause-accepted : goal.returns-clause-accepted
returns-clause-accepted c = accepted_types

pub returns-clause-control : goal.returns-clause-control
returns-clause-control c = λ tables offset n fits. control_typed tables offset (Some n) n fits refl

pub returns-clause-operand : goal.returns-clause-operand
returns-clause-operand c = operand_type
