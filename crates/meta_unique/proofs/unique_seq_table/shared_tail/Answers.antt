use Rattle.std.proofs.Common.{◌-◌, sym, ◌∙◌, ap, arith, rules, length}
use Rattle.std.specs.List.{ends_with}
use Rattle.meta_unique.specs.Overlap.{is_shared}
use Rattle.meta_unique.proofs.Selecting.{greatest_is}
use Rattle.meta_unique.proofs.unique_seq_table.shared_tail.Goals as goal

pub returns-then-ends_with-clause-count : goal.returns-then-ends_with-clause-count
returns-then-ends_with-clause-count g c =
    sym (greatest_is (is_shared g.T.PartialEq.eq c.args.table.now c.args.values.now) (length c.args.values.now - 1) c.loop-count.count
    (omega arith)
    (λ some. ap (ends_with g.T.PartialEq.eq c.args.table.now) (sym c.split_at.ensures.front)
    ∙ sym c.if-ends_with.ensures.value) (λ k a b. c.loop-count.invariant.1 k a (omega arith)))

pub returns-clause-count : goal.returns-clause-count
returns-clause-count g c = sym (greatest_is (is_shared g.T.PartialEq.eq c.args.table.now c.args.values.now)
    (length c.args.values.now - 1) 0 (omega arith) (λ some. absurd (omega arith))
    (λ k a b. c.loop-count.invariant.1 k (omega arith) (omega arith)))

pub returns-then-ends_with-clause-longest : goal.returns-then-ends_with-clause-longest
returns-then-ends_with-clause-longest g c = search rules
