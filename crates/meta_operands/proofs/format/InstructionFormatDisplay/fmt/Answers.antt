use Rattle.std.proofs.Common.{rules}
use Rattle.meta_operands.proofs.format.InstructionFormatDisplay.fmt.Goals as goal

pub returns-clause-writes : goal.returns-clause-writes
returns-clause-writes g c = search rules
