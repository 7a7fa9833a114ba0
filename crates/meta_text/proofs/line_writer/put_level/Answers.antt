use Rattle.meta_text.proofs.LineParts.{one_level, no_level}
use Rattle.meta_text.proofs.Writing.{starts, goes_on, stops, left_as, all_written}
use Rattle.meta_text.proofs.line_writer.put_level.Goals as goal

pub loop-left-init : goal.loop-left-init
loop-left-init g c = starts _ _ _ _

pub loop-left-preserved : goal.loop-left-preserved
loop-left-preserved g c = goes_on (left_as (one_level _ c.loop-left-test.true) c.loop-left.invariant) c.in_ok-put.ensures

pub returns-in_err-put : goal.returns-in_err-put
returns-in_err-put g c = stops _ c.from_residual.ensures.1
    (left_as (one_level _ c.loop-left-test.true) c.loop-left.invariant) c.in_err-put.ensures

pub returns : goal.returns
returns g c = all_written c.loop-left.invariant (no_level _ c.loop-left-test.false)
