use Rattle.std.proofs.Common.{◌+◌, Vec, Global, ◌∙◌, ℕ, sym, ap, subst, arith}
use Rattle.std.proofs.lemmas.Bool.{false≢true}
use Rattle.std.proofs.lemmas.Result.{IfOk-from_err}
use Rattle.meta_inst.specs.Tables.{PassesAt}
use Rattle.meta_explain.specs.Listed.{AreListed, IsLess}
use Rattle.meta_explain.specs.Parts.{numbers_of}
use Rattle.meta_explain.proofs.Listing.{BeforeAnd, number_more, number_same, numbers_none, numbers_all}
use Rattle.meta_explain.proofs.Typed.{in_range}
use Rattle.meta_explain.proofs.types.types_at.Goals as goal
use Rattle.meta_explain.proofs.types.types_at.Goals.{then-operand_passes+in_ok-push, else-operand_passes}

pub loop-number-init : goal.loop-number-init
loop-number-init c =
    numbers_none (PassesAt c.args.tables.now (numbers_of c.args.controls) c.args.place) _ 116 c.new-types.ensures.items
    (λ n p. (in_range n (c.requires c.args.place n p)).0)

pub loop-number-preserved : goal.loop-number-preserved
loop-number-preserved c =
    let P = PassesAt c.args.tables.now (numbers_of c.args.controls) c.args.place in
    let n = c.loop-number.number in
    elim c.if-operand_passes.branch [
      | then-operand_passes+in_ok-push w ↦ subst (AreListed IsLess (BeforeAnd P (n + 1)))
          (sym (ap (λ (v : Vec ℕ Global). v.items) w.types-is ∙ w.in_ok-push.ensures.items))
          (number_more P c.loop-number.types.items n (c.operand_passes.ensures.0 w.if-operand_passes.true) c.loop-number.invariant)
      | else-operand_passes w ↦ subst (AreListed IsLess (BeforeAnd P (n + 1)))
          (sym (ap (λ (v : Vec ℕ Global). v.items) w.types-is))
          (number_same P c.loop-number.types.items n (λ p. false≢true (sym w.if-operand_passes.false ∙ c.operand_passes.ensures.1 p))
          c.loop-number.invariant)
    ]

pub returns : goal.returns
returns c =
    let past = c.loop-number-test.false in
    numbers_all (PassesAt c.args.tables.now (numbers_of c.args.controls) c.args.place) c.loop-number.types.items c.loop-number.number
    (λ n p. let high = (in_range n (c.requires c.args.place n p)).1 in omega (arith, high, past))
    c.loop-number.invariant

pub returns-in_err-push : goal.returns-in_err-push
returns-in_err-push c = IfOk-from_err c.from_residual.result _ c.from_residual.ensures.0
