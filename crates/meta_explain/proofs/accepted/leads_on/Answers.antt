use Rattle.std.proofs.Common.{◌∙◌, ⊎_elim, refl, sym, subst, arith}
use Rattle.std.proofs.lemmas.Bool.{false≢true, cases_eq}
use Rattle.meta_types.specs.Function.{StepsNumbers}
use Rattle.meta_types.specs.DerivedFunc.{function_of}
use Rattle.meta_explain.proofs.Serving.{applied, relation_below, led_to}
use Rattle.meta_explain.proofs.accepted.leads_on.Goals as goal

pub returns-then-not-is_relation : goal.returns-then-not-is_relation
returns-then-not-is_relation c = applied (function_of c.args.derived_func) c.args.number c.apply_number.result c.is_some.result
    (λ r. false≢true (sym c.if-not-is_relation.true ∙ c.is_relation.ensures.1 r))
    c.apply_number.ensures.found c.apply_number.ensures.none c.is_some.ensures

pub returns-then-relates_number : goal.returns-then-relates_number
returns-then-relates_number c = (λ e. (c.loop-other.other, c.relates_number.ensures.0 c.if-relates_number.true), λ s. refl)

pub loop-other-preserved : goal.loop-other-preserved
loop-other-preserved c = λ n low below s. ⊎_elim
    (λ same. false≢true (sym c.if-relates_number.false ∙ c.relates_number.ensures.1
    (subst (StepsNumbers (function_of c.args.derived_func) c.args.number) same s)))
    (λ other. c.loop-other.invariant n low (omega (arith, below, other)) s)
    (cases_eq n c.loop-other.other)

pub returns : goal.returns
returns c =
    let past = c.loop-other-test.false in
    let f = function_of c.args.derived_func in (
      λ e. absurd (false≢true e),
      λ (n, s).
          let low = (led_to f c.args.number n s).0 in
          let high = relation_below f c.args.number n (c.is_relation.ensures.0 c.if-not-is_relation.false) s in
          absurd (c.loop-other.invariant n low (omega (arith, high, past)) s),
    )
