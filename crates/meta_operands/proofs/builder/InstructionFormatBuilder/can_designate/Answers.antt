use Rattle.std.proofs.Common.{rules}
use Rattle.meta_operands.proofs.builder.InstructionFormatBuilder.can_designate.Goals as goal

pub returns-then-is_none : goal.returns-then-is_none
returns-then-is_none c = search rules
