use Rattle.std.proofs.Common.{◌<◌, ◌+◌, ⊎_elim, refl, sym, ◌∙◌, subst, arith}
use Rattle.std.proofs.lemmas.Bool.{false≢true, cases_eq}
use Rattle.meta_gen.specs.Constraint.{entry_of}
use Rattle.meta_explain.specs.Serving.{IsMetAt}
use Rattle.meta_explain.proofs.accepted.are_met.Goals as goal

pub loop-k-preserved : goal.loop-k-preserved
loop-k-preserved c = λ k l. ⊎_elim
    (λ same. subst (λ i. IsMetAt c.args.tables.now (entry_of c.args.entry) (c.args.entry.constraint_offset + i)) (sym same)
    (c.is_met_at.ensures.0 c.if-not-is_met_at.false))
    (λ other. c.loop-k.invariant k (omega (arith, l, other)))
    (cases_eq k c.loop-k.k)

pub returns-then-not-is_met_at : goal.returns-then-not-is_met_at
returns-then-not-is_met_at c =
    let test = c.loop-k-test.true in
    let results = c.result_count.ensures.count in
    let values = c.value_count.ensures.count in (
      λ t. absurd (false≢true t),
      λ all. absurd (false≢true (sym c.if-not-is_met_at.true ∙ c.is_met_at.ensures.1
          (all c.loop-k.k (omega (arith, test, results, values))))),
    )

pub returns : goal.returns
returns c =
    let past = c.loop-k-test.false in
    let results = c.result_count.ensures.count in
    let values = c.value_count.ensures.count in
    (λ t k l. c.loop-k.invariant k (omega (arith, past, results, values, l)), λ all. refl)
