use Rattle.std.proofs.Common.{◌+◌, ◌∙◌, sym, subst, arith}
use Rattle.std.proofs.lemmas.Bool.{false≢true}
use Rattle.meta_query.specs.Summary.{CountsTo, TakesEverywhere}
use Rattle.meta_query.proofs.Counted.{counts_yes, counts_no, counts_few}
use Rattle.meta_query.proofs.counting.taking_count.Goals as goal
use Rattle.meta_query.proofs.counting.taking_count.Goals.{then-takes_everywhere, else-takes_everywhere}

pub overflow_add-count : goal.overflow_add-count
overflow_add-count c = omega (
  arith,
  counts_few (TakesEverywhere c.args.tables.now.opcodes c.args.number) c.loop-place.place c.loop-place.count c.loop-place.invariant,
  c.loop-place-test.true,
  c.opcode_count-place-end.ensures.count,
  c.opcode_count-place-end.ensures.few,
)

pub loop-place-preserved : goal.loop-place-preserved
loop-place-preserved c =
    let P = TakesEverywhere c.args.tables.now.opcodes c.args.number in
    let next = c.loop-place.place + 1 in
    elim c.if-takes_everywhere.branch [
      | then-takes_everywhere w ↦ subst (CountsTo P next) (sym w.count-is)
          (counts_yes P c.loop-place.place c.loop-place.count c.loop-place.invariant
          (c.takes_everywhere.ensures.0 w.if-takes_everywhere.true))
      | else-takes_everywhere w ↦ subst (CountsTo P next) (sym w.count-is)
          (counts_no P c.loop-place.place c.loop-place.count c.loop-place.invariant
          (λ p. false≢true (sym w.if-takes_everywhere.false ∙ c.takes_everywhere.ensures.1 p)))
    ]
