use Rattle.std.proofs.Common.{◌+◌, Vec, Global, ◌∙◌, ℕ, Some, refl, sym, ap, subst, arith}
use Rattle.std.proofs.lemmas.Bool.{false≢true}
use Rattle.std.proofs.lemmas.Result.{IfOk-from_err}
use Rattle.meta_inst.specs.Controls.{which_of}
use Rattle.meta_gen.specs.Constraint.{entry_of}
use Rattle.meta_explain.specs.Listed.{AreListed, IsLess}
use Rattle.meta_explain.specs.Search.{offset_of}
use Rattle.meta_explain.specs.Serving.{IsServing}
use Rattle.meta_explain.proofs.Listing.{BeforeAnd, number_more, number_same, numbers_none, numbers_all}
use Rattle.meta_explain.proofs.Typed.{in_range, control_typed}
use Rattle.meta_explain.proofs.accepted.serving.Goals as goal
use Rattle.meta_explain.proofs.accepted.serving.Goals.{then-is_serving+in_ok-push, else-is_serving}

pub returns-then-offset_of : goal.returns-then-offset_of
returns-then-offset_of c = sym c.offset_of.ensures ∙ c.if-offset_of.true

pub loop-number-init : goal.loop-number-init
loop-number-init c =
    let t = c.args.tables.now in
    let e = entry_of c.args.entry in
    let a = which_of c.args.which in
    numbers_none (IsServing t e a) _ 116 c.new-types.ensures.items
    (λ n s. (in_range n (control_typed t (offset_of e a) (Some n) n s.fits refl)).0)

pub loop-number-preserved : goal.loop-number-preserved
loop-number-preserved c =
    let P = IsServing c.args.tables.now (entry_of c.args.entry) (which_of c.args.which) in
    let n = c.loop-number.number in
    elim c.if-is_serving.branch [
      | then-is_serving+in_ok-push w ↦ subst (AreListed IsLess (BeforeAnd P (n + 1)))
          (sym (ap (λ (v : Vec ℕ Global). v.items) w.types-is ∙ w.in_ok-push.ensures.items))
          (number_more P c.loop-number.types.items n (c.is_serving.ensures.0 w.if-is_serving.true) c.loop-number.invariant)
      | else-is_serving w ↦ subst (AreListed IsLess (BeforeAnd P (n + 1)))
          (sym (ap (λ (v : Vec ℕ Global). v.items) w.types-is))
          (number_same P c.loop-number.types.items n (λ p. false≢true (sym w.if-is_serving.false ∙ c.is_serving.ensures.1 p))
          c.loop-number.invariant)
    ]

pub returns : goal.returns
returns c =
    let past = c.loop-number-test.false in
    let t = c.args.tables.now in
    let e = entry_of c.args.entry in
    let a = which_of c.args.which in (
      λ none. c.if-offset_of.false (c.offset_of.ensures ∙ none),
      numbers_all (IsServing t e a) c.loop-number.types.items c.loop-number.number
          (λ n s.
          let high = (in_range n (control_typed t (offset_of e a) (Some n) n s.fits refl)).1 in
          omega (arith, high, past)) c.loop-number.invariant,
    )

pub returns-in_err-push : goal.returns-in_err-push
returns-in_err-push c = IfOk-from_err c.from_residual.result _ c.from_residual.ensures.0
