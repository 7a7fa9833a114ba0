use Rattle.std.proofs.Common.{rules}
use Rattle.meta_operands.proofs.operand.Operand.doc.Goals as goal

pub returns-in-None : goal.returns-in-None
returns-in-None c = search rules
