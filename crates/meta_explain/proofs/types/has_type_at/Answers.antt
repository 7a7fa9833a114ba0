use Rattle.std.proofs.Common.{◌∙◌, ⊎_elim, refl, sym, subst, arith}
use Rattle.std.proofs.lemmas.Bool.{false≢true, cases_eq}
use Rattle.meta_inst.specs.Tables.{PassesAt}
use Rattle.meta_explain.specs.Parts.{numbers_of}
use Rattle.meta_explain.proofs.Typed.{in_range}
use Rattle.meta_explain.proofs.types.has_type_at.Goals as goal

pub returns-then-operand_passes : goal.returns-then-operand_passes
returns-then-operand_passes c = (λ e. (c.loop-number.number, c.operand_passes.ensures.0 c.if-operand_passes.true), λ s. refl)

pub loop-number-preserved : goal.loop-number-preserved
loop-number-preserved c = λ n low below p. ⊎_elim
    (λ same. false≢true (sym c.if-operand_passes.false ∙ c.operand_passes.ensures.1
    (subst (PassesAt c.args.tables.now (numbers_of c.args.controls) c.args.place) same p)))
    (λ other. c.loop-number.invariant n low (omega (arith, below, other)) p)
    (cases_eq n c.loop-number.number)

pub returns : goal.returns
returns c =
    let past = c.loop-number-test.false in (
      λ e. absurd (false≢true e),
      λ (n, p). let r = in_range n (c.requires c.args.place n p) in let low = r.0 in let high = r.1 in
          absurd (c.loop-number.invariant n low (omega (arith, high, past)) p),
    )
