use Rattle.std.proofs.Common.{rules}
use Rattle.meta_gen.proofs.tables.Tables.find_opcode.Goals as goal

pub returns-clause-finds : goal.returns-clause-finds
returns-clause-finds c = search rules

pub returns-clause-none : goal.returns-clause-none
returns-clause-none c = search rules

pub returns-clause-findings : goal.returns-clause-findings
returns-clause-findings c = search rules
