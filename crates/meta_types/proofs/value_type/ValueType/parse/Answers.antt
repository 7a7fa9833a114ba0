use Rattle.meta_types.proofs.TypeNumbers.{value_named, value_there}
use Rattle.meta_types.proofs.value_type.ValueType.parse.Goals as goal

pub returns-in_err-number-clause-none : goal.returns-in_err-number-clause-none
returns-in_err-number-clause-none c = rw c.from_residual.ensures c.in_err-number.ensures.none

pub returns-clause-found : goal.returns-clause-found
returns-clause-found c =
    value_named c.from_number.result c.in_ok-number.number c.args.text.now c.in_ok-number.ensures.found c.from_number.ensures.found

pub returns-clause-none : goal.returns-clause-none
returns-clause-none c = value_there c.from_number.result c.in_ok-number.number c.args.text.now
    c.in_ok-number.ensures.found c.from_number.ensures.none
