use Rattle.std.proofs.Common.{rules}
use Rattle.meta_operands.proofs.builder.InstructionFormatBuilder.block.Goals as goal

pub returns : goal.returns
returns c = search rules
