use Rattle.std.proofs.Common.{arith}
use Rattle.meta_rust_names.proofs.Numbers.{number_told, no_digits}
use Rattle.meta_rust_names.proofs.names.is_number_below.Goals as goal

pub returns-in-Some : goal.returns-in-Some
returns-in-Some c = number_told c.in-Some.number c.args.count c.args.digits.now (omega arith) (omega arith) c.in-Some.ensures.some

pub returns-in-None : goal.returns-in-None
returns-in-None c = no_digits c.args.count c.args.digits.now (omega arith) c.in-None.ensures.none
