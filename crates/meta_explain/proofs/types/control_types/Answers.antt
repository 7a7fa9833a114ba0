use Rattle.std.proofs.Common.{◌+◌, Vec, Global, ◌∙◌, ℕ, Some, refl, sym, ap, subst, arith}
use Rattle.std.proofs.lemmas.Bool.{false≢true}
use Rattle.std.proofs.lemmas.Result.{IfOk-from_err}
use Rattle.meta_inst.specs.Tables.{ControlNumberFits}
use Rattle.meta_explain.specs.Listed.{AreListed, IsLess}
use Rattle.meta_explain.proofs.Listing.{BeforeAnd, number_more, number_same, numbers_none, numbers_all}
use Rattle.meta_explain.proofs.Typed.{in_range, control_typed}
use Rattle.meta_explain.proofs.types.control_types.Goals as goal
use Rattle.meta_explain.proofs.types.control_types.Goals.{then-control_fits+in_ok-push, else-control_fits}

pub loop-number-init : goal.loop-number-init
loop-number-init c =
    numbers_none (λ (n : ℕ). ControlNumberFits c.args.tables.now c.args.offset (Some n)) _ 116 c.new-types.ensures.items
    (λ n p. (in_range n (control_typed c.args.tables.now c.args.offset (Some n) n p refl)).0)

pub loop-number-preserved : goal.loop-number-preserved
loop-number-preserved c =
    let P = λ (n : ℕ). ControlNumberFits c.args.tables.now c.args.offset (Some n) in
    let n = c.loop-number.number in
    elim c.if-control_fits.branch [
      | then-control_fits+in_ok-push w ↦ subst (AreListed IsLess (BeforeAnd P (n + 1)))
          (sym (ap (λ (v : Vec ℕ Global). v.items) w.types-is ∙ w.in_ok-push.ensures.items))
          (number_more P c.loop-number.types.items n (c.control_fits.ensures.0 w.if-control_fits.true) c.loop-number.invariant)
      | else-control_fits w ↦ subst (AreListed IsLess (BeforeAnd P (n + 1)))
          (sym (ap (λ (v : Vec ℕ Global). v.items) w.types-is))
          (number_same P c.loop-number.types.items n (λ p. false≢true (sym w.if-control_fits.false ∙ c.control_fits.ensures.1 p))
          c.loop-number.invariant)
    ]

pub returns : goal.returns
returns c =
    let past = c.loop-number-test.false in
    numbers_all (λ (n : ℕ). ControlNumberFits c.args.tables.now c.args.offset (Some n)) c.loop-number.types.items c.loop-number.number
    (λ n p. let high = (in_range n (control_typed c.args.tables.now c.args.offset (Some n) n p refl)).1 in omega (arith, high, past))
    c.loop-number.invariant

pub returns-in_err-push : goal.returns-in_err-push
returns-in_err-push c = IfOk-from_err c.from_residual.result _ c.from_residual.ensures.0
