use Rattle.std.proofs.Common.{rules}
use Rattle.meta_gen.proofs.opcode_parts.is_entry.Goals as goal

pub returns-then-differs_rightly : goal.returns-then-differs_rightly
returns-then-differs_rightly c = search rules
