use Rattle.meta_rust_text.proofs.TypeTexts.{one_size, no_size}
use Rattle.meta_rust_text.proofs.Sizes.{each_size}
use Rattle.meta_rust_text.proofs.types.push_sizes.Goals as goal

pub push_vectors-requires : goal.push_vectors-requires
push_vectors-requires c = each_size c.loop-bits.bits-index c.loop-bits-test.true

pub push_dynamic_vectors-requires : goal.push_dynamic_vectors-requires
push_dynamic_vectors-requires c = each_size c.loop-bits.bits-index c.loop-bits-test.true

pub loop-bits-preserved : goal.loop-bits-preserved
loop-bits-preserved c = one_size _ _ _ _ c.loop-bits.bits-index c.loop-bits-test.true c.in_ok-push_vectors.ensures
    c.in_ok-push_dynamic_vectors.ensures c.loop-bits.invariant

pub returns : goal.returns
returns c = no_size _ _ c.loop-bits.bits-index c.loop-bits-test.false c.loop-bits.invariant
