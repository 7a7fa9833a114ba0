use Rattle.std.proofs.Common.{refl, arith}
use Rattle.meta_lists.proofs.Places.{same_places}
use Rattle.meta_gen.proofs.same.same_groups.Goals as goal

pub returns : goal.returns
returns c =
    let long = c.if-one-other.false in
    let past = c.loop-k-test.false in
    let end = c.loop-k.auto.k-end in
    (λ t. same_places c.args.one.now c.args.other.now (omega arith) (λ j l. c.loop-k.invariant j (omega (arith, l, past, end))), λ e. refl)
