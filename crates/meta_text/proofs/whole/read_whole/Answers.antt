-- What was given with the last read.
use Rattle.std.proofs.Common.{arith, rules}
use Rattle.std.proofs.lemmas.Grind.{common_steps}
use Rattle.meta_text.proofs.Given.{gave_too_much, gave_few}
use Rattle.meta_text.proofs.whole.read_whole.Goals as goal

pub returns-then-count-len-clause-too_long : goal.returns-then-count-len-clause-too_long
returns-then-count-len-clause-too_long g c too_long =
    gave_too_much _ _ _ _ _ _ _ c.loop-count.invariant.given c.in-Got.ensures.got c.in-Got.ensures.in_range.1 (omega arith)

pub returns-in-Err-clause-else_within : goal.returns-in-Err-clause-else_within
returns-in-Err-clause-else_within g c other =
    gave_few _ _ _ _ _ _ _ c.loop-count.invariant.given c.in-Got.ensures.got c.in-Got.ensures.in_range.1 (omega arith)

pub loop-count-preserved : goal.loop-count-preserved
loop-count-preserved g c = grind (arith, common_steps)

pub returns-in-Failed-clause-end : goal.returns-in-Failed-clause-end
returns-in-Failed-clause-end g c = search rules
