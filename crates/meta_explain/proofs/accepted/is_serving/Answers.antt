use Rattle.std.proofs.Common.{◌<◌, ◌+◌, ⊎_elim, Some, refl, sym, ◌∙◌, subst, arith}
use Rattle.std.proofs.lemmas.Bool.{false≢true, cases_eq}
use Rattle.meta_inst.specs.Controls.{which_of}
use Rattle.meta_inst.specs.Tables.{ControlNumberFits}
use Rattle.meta_explain.specs.Serving.{ServesAt}
use Rattle.meta_explain.proofs.accepted.is_serving.Goals as goal

pub returns-then-not-control_fits : goal.returns-then-not-control_fits
returns-then-not-control_fits c = (
  λ t. absurd (false≢true t),
  λ s. absurd (false≢true (sym c.if-not-control_fits.true ∙ c.control_fits.ensures.1
      (subst (λ o. ControlNumberFits c.args.tables.now o (Some c.args.number)) (sym c.offset_of.ensures) s.fits))),
)

pub loop-k-preserved : goal.loop-k-preserved
loop-k-preserved c = λ k l. ⊎_elim
    (λ same. subst (λ i. ServesAt c.args.tables.now (which_of c.args.which) c.args.number (c.args.entry.constraint_offset + i)) (sym same)
    (c.serves_at.ensures.0 c.if-not-serves_at.false))
    (λ other. c.loop-k.invariant k (omega (arith, l, other)))
    (cases_eq k c.loop-k.k)

pub returns-then-not-serves_at : goal.returns-then-not-serves_at
returns-then-not-serves_at c =
    let test = c.loop-k-test.true in
    let results = c.result_count.ensures.count in
    let values = c.value_count.ensures.count in (
      λ t. absurd (false≢true t),
      λ s. absurd (false≢true (sym c.if-not-serves_at.true ∙ c.serves_at.ensures.1
          (s.serves c.loop-k.k (omega (arith, test, results, values))))),
    )

pub returns : goal.returns
returns c =
    let past = c.loop-k-test.false in
    let results = c.result_count.ensures.count in
    let values = c.value_count.ensures.count in (
      λ t. record {
        fits = subst (λ o. ControlNumberFits c.args.tables.now o (Some c.args.number)) c.offset_of.ensures
            (c.control_fits.ensures.0 c.if-not-control_fits.false);
        serves = λ k l. c.loop-k.invariant k (omega (arith, past, results, values, l));
      },
      λ s. refl,
    )
