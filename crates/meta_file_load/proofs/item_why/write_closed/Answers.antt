use Rattle.meta_file_load.proofs.Closing.{one_more}
use Rattle.meta_file_load.proofs.item_why.write_closed.Goals as goal

pub loop-function-preserved : goal.loop-function-preserved
loop-function-preserved c = one_more _ _ _ c.args.functions.now c.loop-function._function-index c.loop-function-test.true
    c.in_ok-extend_from_slice.ensures.items c.loop-function.invariant
