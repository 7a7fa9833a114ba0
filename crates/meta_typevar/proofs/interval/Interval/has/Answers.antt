use Rattle.std.proofs.Common.{rules}
use Rattle.meta_typevar.proofs.interval.Interval.has.Goals as goal

pub returns-then-range-n : goal.returns-then-range-n
returns-then-range-n c = search rules
