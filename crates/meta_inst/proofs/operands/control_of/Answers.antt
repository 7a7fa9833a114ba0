use Rattle.std.proofs.Common.{rules}
use Rattle.meta_inst.proofs.operands.control_of.Goals as goal

pub returns-in-Some : goal.returns-in-Some
returns-in-Some c = search rules
