use Rattle.std.proofs.Common.{arith}
use Rattle.meta_query.proofs.Marks.{mark_before_end}
use Rattle.meta_query.proofs.queries.mark_in.Goals as goal

pub returns-clause-none : goal.returns-clause-none
returns-clause-none c = mark_before_end c.args.input.now (λ k few. c.loop-at.invariant k (omega arith))
