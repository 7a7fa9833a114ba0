use Rattle.std.proofs.Common.{◌+◌, ◌∙◌, sym, subst, arith}
use Rattle.std.proofs.lemmas.Bool.{false≢true}
use Rattle.meta_query.specs.Summary.{CountsTo, IsFoundByName}
use Rattle.meta_query.proofs.Counted.{counts_yes, counts_no, counts_few}
use Rattle.meta_query.proofs.counting.found_count.Goals as goal
use Rattle.meta_query.proofs.counting.found_count.Goals.{then-is_found, else-is_found}

pub overflow_add-count : goal.overflow_add-count
overflow_add-count c = omega (
  arith,
  counts_few (IsFoundByName c.args.tables.now.opcodes) c.loop-place.place c.loop-place.count
      c.loop-place.invariant,
  c.loop-place-test.true,
  c.opcode_count-place-end.ensures.count,
  c.opcode_count-place-end.ensures.few,
)

pub loop-place-preserved : goal.loop-place-preserved
loop-place-preserved c =
    let P = IsFoundByName c.args.tables.now.opcodes in
    let next = c.loop-place.place + 1 in
    elim c.if-is_found.branch [
      | then-is_found w ↦ subst (CountsTo P next) (sym w.count-is)
          (counts_yes P c.loop-place.place c.loop-place.count c.loop-place.invariant (c.is_found.ensures.0 w.if-is_found.true))
      | else-is_found w ↦ subst (CountsTo P next) (sym w.count-is)
          (counts_no P c.loop-place.place c.loop-place.count c.loop-place.invariant
          (λ p. false≢true (sym w.if-is_found.false ∙ c.is_found.ensures.1 p)))
    ]
