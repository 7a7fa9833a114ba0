use Rattle.std.proofs.Common.{◌≡◌, refl, sym, ap, ◌∙◌, arith, below_more}
use Rattle.std.proofs.lemmas.Bool.{false≢true}
use Rattle.std.proofs.lemmas.Bool.Decides.{Decides-eqb}
use Rattle.std.proofs.lemmas.Option.{slice_get_read, slice_get_within}
use Rattle.meta_typevar.specs.Registry.{variable_at}
use Rattle.meta_inst.proofs.operands.is_used.Goals as goal

pub returns-then-eq : goal.returns-then-eq
returns-then-eq c = record {
  place = c.loop-place.place;
  variable = c.index-variables-place.result;
  at = slice_get_read c.args.variables.now _ c.loop-place.place c.index-variables-place.result refl
      c.loop-place-test.true c.index-variables-place.is;
  root = sym c.root.ensures.root ∙ (Decides-eqb c.root.result c.root-root.result).0 (sym c.eq.ensures ∙ c.if-eq.true)
      ∙ c.root-root.ensures.root;
}

pub loop-place-preserved : goal.loop-place-preserved
loop-place-preserved c =
    below_more _ _ c.loop-place.invariant
    (λ n at is.
    let read = slice_get_read c.args.variables.now _ c.loop-place.place c.index-variables-place.result refl
    c.loop-place-test.true c.index-variables-place.is in
    let same : c.index-variables-place.result ≡ n = cc in
    false≢true (sym c.if-eq.false ∙ c.eq.ensures
    ∙ (Decides-eqb c.root.result c.root-root.result).1 (c.root.ensures.root ∙ ap (λ m. (variable_at c.args.vars.now m).root) same ∙ is)))

pub returns : goal.returns
returns c = λ place n at is.
    let l = slice_get_within c.args.variables.now place n at in
    let past = c.loop-place-test.false in
    c.loop-place.invariant place (omega arith) n at (is ∙ sym c.root-root.ensures.root)
