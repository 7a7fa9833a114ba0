use Rattle.meta_file_syntax.proofs.Closing.{one_more}
use Rattle.meta_file_syntax.proofs.speller.Speller.add_type.Goals as goal

pub loop-function-preserved : goal.loop-function-preserved
loop-function-preserved c = one_more _ _ _ c.as_slice-functions.result.now c.loop-function._function-index c.loop-function-test.true
    c.in_ok-add.ensures c.loop-function.invariant
