use Rattle.std.proofs.Common.{◌∙◌, ⊎_elim, refl, sym, subst, arith}
use Rattle.std.proofs.lemmas.Bool.{false≢true, cases_eq}
use Rattle.meta_inst.specs.Tables.{SetContains}
use Rattle.meta_explain.proofs.Typed.{in_range, set_typed}
use Rattle.meta_explain.proofs.accepted.has_member.Goals as goal

pub returns-then-set_contains : goal.returns-then-set_contains
returns-then-set_contains c = (λ e. (c.loop-number.number, c.set_contains.ensures.0 c.if-set_contains.true), λ s. refl)

pub loop-number-preserved : goal.loop-number-preserved
loop-number-preserved c = λ n low below s. ⊎_elim
    (λ same. false≢true (sym c.if-set_contains.false ∙ c.set_contains.ensures.1
    (subst (SetContains c.args.tables.now c.args.set) same s)))
    (λ other. c.loop-number.invariant n low (omega (arith, below, other)) s)
    (cases_eq n c.loop-number.number)

pub returns : goal.returns
returns c =
    let past = c.loop-number-test.false in (
      λ e. absurd (false≢true e),
      λ (n, s). let r = in_range n (set_typed c.args.tables.now c.args.set n s) in let low = r.0 in let high = r.1 in
          absurd (c.loop-number.invariant n low (omega (arith, high, past)) s),
    )
