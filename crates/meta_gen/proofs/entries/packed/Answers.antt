use Rattle.std.proofs.Common.{rules}
use Rattle.meta_gen.proofs.entries.packed.Goals as goal

pub returns-clause-designated : goal.returns-clause-designated
returns-clause-designated c = search rules

pub returns-clause-differs : goal.returns-clause-differs
returns-clause-differs c = search rules
