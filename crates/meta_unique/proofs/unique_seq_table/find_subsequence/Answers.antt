use Rattle.std.proofs.Common.{sym, ◌∙◌, ap, arith, length}
use Rattle.std.specs.List.{starts_with}
use Rattle.meta_unique.specs.Overlap.{stands_at}
use Rattle.meta_unique.proofs.Selecting.{least_is}
use Rattle.meta_unique.proofs.unique_seq_table.find_subsequence.Goals as goal

pub returns-then-starts_with-clause-stands : goal.returns-then-starts_with-clause-stands
returns-then-starts_with-clause-stands g c = ap (λ part. starts_with g.T.PartialEq.eq part c.args.values.now) (sym c.split_at.ensures.back)
    ∙ sym c.starts_with.ensures.value ∙ c.if-starts_with.true

pub returns-then-starts_with-clause-found : goal.returns-then-starts_with-clause-found
returns-then-starts_with-clause-found g c =
    sym (least_is _ _ _ (omega arith) c.loop-place.invariant (λ below. returns-then-starts_with-clause-stands g c))

pub returns-clause-none : goal.returns-clause-none
returns-clause-none g c = least_is (stands_at g.T.PartialEq.eq c.args.whole.now c.args.values.now) (length c.args.whole.now)
    (length c.args.whole.now) (omega arith) (λ k b. c.loop-place.invariant k (omega arith)) (λ b. absurd (omega arith))
