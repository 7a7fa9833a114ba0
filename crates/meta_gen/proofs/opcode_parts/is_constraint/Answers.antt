use Rattle.std.proofs.Common.{rules}
use Rattle.meta_gen.proofs.opcode_parts.is_constraint.Goals as goal

pub returns-in-Number : goal.returns-in-Number
returns-in-Number c = search rules

pub returns-in-OfSet : goal.returns-in-OfSet
returns-in-OfSet c = search rules
