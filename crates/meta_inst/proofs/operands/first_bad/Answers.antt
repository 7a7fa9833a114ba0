use Rattle.std.proofs.Common.{refl, sym, ◌∙◌, arith, below_more}
use Rattle.std.proofs.lemmas.Bool.{false≢true}
use Rattle.std.proofs.lemmas.Option.{slice_get_read, slice_get_within}
use Rattle.meta_inst.proofs.Derived.{not_bad_at}
use Rattle.meta_inst.proofs.operands.first_bad.Goals as goal

pub loop-place-init : goal.loop-place-init
loop-place-init c = λ k l h. absurd (omega (arith, l))

pub returns-then-is_badly_derived-clause-found : goal.returns-then-is_badly_derived-clause-found
returns-then-is_badly_derived-clause-found c = record {
  bad = record {
    number = c.index-variables-place.result;
    at = slice_get_read c.args.variables.now _ c.loop-place.place c.index-variables-place.result refl
        c.loop-place-test.true c.index-variables-place.is;
    bad = c.is_badly_derived.ensures.0 c.if-is_badly_derived.true;
  };
  first = c.loop-place.invariant;
}

pub loop-place-preserved : goal.loop-place-preserved
loop-place-preserved c =
    below_more _ _ c.loop-place.invariant
    (not_bad_at c.args.vars.now c.args.controls.now c.args.variables.now c.loop-place.place c.index-variables-place.result
    (slice_get_read c.args.variables.now _ c.loop-place.place c.index-variables-place.result refl
    c.loop-place-test.true c.index-variables-place.is)
    (λ h. false≢true (sym c.if-is_badly_derived.false ∙ c.is_badly_derived.ensures.1 h)))

pub returns-clause-none : goal.returns-clause-none
returns-clause-none c = λ k h.
    let l = slice_get_within c.args.variables.now k h.number h.at in
    let past = c.loop-place-test.false in
    c.loop-place.invariant k (omega arith) h
