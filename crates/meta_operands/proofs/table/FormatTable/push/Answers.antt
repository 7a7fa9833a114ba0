use Rattle.std.proofs.Common.{rules}
use Rattle.meta_operands.proofs.table.FormatTable.push.Goals as goal

pub returns-clause-added : goal.returns-clause-added
returns-clause-added c = search rules

pub returns-clause-number : goal.returns-clause-number
returns-clause-number c = search rules
