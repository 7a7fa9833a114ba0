use Rattle.std.proofs.Common.{rules}
use Rattle.meta_operands.proofs.builder.InstructionFormatBuilder.build.Goals as goal

pub returns-clause-added : goal.returns-clause-added
returns-clause-added c = search rules
