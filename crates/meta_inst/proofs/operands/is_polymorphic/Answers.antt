use Rattle.std.proofs.Common.{refl, sym, ◌∙◌, subst, arith, below_more}
use Rattle.std.proofs.lemmas.Bool.{false≢true}
use Rattle.std.proofs.lemmas.Option.{slice_get_read, slice_get_within}
use Rattle.meta_inst.specs.Operands.{HasOneType}
use Rattle.meta_inst.proofs.operands.is_polymorphic.Goals as goal

pub returns-then-not-has_one_type : goal.returns-then-not-has_one_type
returns-then-not-has_one_type c = record {
  place = c.loop-place.place;
  variable = c.index-variables-place.result;
  at = slice_get_read c.args.variables.now _ c.loop-place.place c.index-variables-place.result refl
      c.loop-place-test.true c.index-variables-place.is;
  several = λ one. false≢true (sym c.if-not-has_one_type.true ∙ c.has_one_type.ensures.1 one);
}

pub loop-place-preserved : goal.loop-place-preserved
loop-place-preserved c =
    below_more _ _ c.loop-place.invariant
    (λ n at.
    let read = slice_get_read c.args.variables.now _ c.loop-place.place c.index-variables-place.result refl
    c.loop-place-test.true c.index-variables-place.is in
    subst (HasOneType c.args.vars.now) (cc) (c.has_one_type.ensures.0 c.if-not-has_one_type.false))

pub returns : goal.returns
returns c = λ place n at.
    let l = slice_get_within c.args.variables.now place n at in
    let past = c.loop-place-test.false in
    c.loop-place.invariant place (omega arith) n at
