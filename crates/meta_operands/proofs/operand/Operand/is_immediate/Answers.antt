use Rattle.std.proofs.Common.{rules}
use Rattle.meta_operands.proofs.operand.Operand.is_immediate.Goals as goal

pub returns-in-ImmEnum : goal.returns-in-ImmEnum
returns-in-ImmEnum c = search rules

pub returns-in_default : goal.returns-in_default
returns-in_default c = search rules
