use Rattle.std.proofs.Common.{rules}
use Rattle.meta_operands.proofs.kind.OperandKind.is_block.Goals as goal

pub returns-clause-test : goal.returns-clause-test
returns-clause-test c = search rules

pub returns-clause-meaning : goal.returns-clause-meaning
returns-clause-meaning c = search rules
