use Rattle.std.proofs.Common.{◌≡◌, ◌↔◌, IsTrue, Bool, false, ◌<◌, ℕ, List, length, get_or, Option, arith, refl, sym, ap, subst, ◌∙◌}
use Rattle.std.proofs.Common.{slice_get, Some, ⊎_elim}
use Rattle.std.proofs.lemmas.Bool.{false≢true, cases_lt}
use Rattle.std.proofs.lemmas.Option.{slice_get-get_or, slice_get_within}
use Rattle.meta_inst.specs.Which.{Which, Second}
use Rattle.meta_inst.specs.Operands.{LetsControl}
use Rattle.meta_inst.proofs.operands.may_control.Goals as goal

-- an answer of no to one test
told : (r : Bool) (P Q : Type 0) → r ≡ false → (IsTrue r ↔ P) → (Q → P) → (IsTrue false → Q) × (Q → IsTrue false)
told r P Q e h f = ((λ e. absurd (false≢true e)), (λ q. sym e ∙ h.1 (f q)))

pub returns-then-not-is_underived : goal.returns-then-not-is_underived
returns-then-not-is_underived c = told c.is_underived.result _ _ c.if-not-is_underived.true c.is_underived.ensures (λ h. h.underived)

pub returns-then-is_second : goal.returns-then-is_second
returns-then-is_second c = (
  (λ e. absurd (false≢true e)),
  (λ h. absurd (h.not_second (sym (ap (λ (f : Which → Option ℕ). f Second) c.controls-controls.ensures)
      ∙ c.is_second.ensures.0 c.if-is_second.true))),
)

pub returns-then-not-lets_control : goal.returns-then-not-lets_control
returns-then-not-lets_control c =
    let within = subst (λ (xs : List ℕ). c.loop-place.place < length xs) c.variables-place-end.ensures c.loop-place-test.true in
    let at = slice_get-get_or c.args.operands.now.variables c.loop-place.place 0 within in
    told c.lets_control.result _ _ c.if-not-lets_control.true (c.lets_control.ensures _ at)
    (λ h. subst (λ (f : Which → Option ℕ). LetsControl c.args.vars.now f c.args.operands.now.variables c.args.operands.now.result_count
    c.loop-place.place (get_or c.args.operands.now.variables c.loop-place.place 0)) (sym c.controls-controls.ensures) (h.all _ _ at))

pub loop-place-preserved : goal.loop-place-preserved
loop-place-preserved c = λ i n l at. ⊎_elim
    (λ below. c.loop-place.invariant i n below at)
    (λ past.
    let same : c.loop-place.place ≡ i = omega (arith, l, past) in
    subst (λ k. slice_get c.args.operands.now.variables k ≡ Some n
    → LetsControl c.args.vars.now c.controls-controls.result c.args.operands.now.variables c.args.operands.now.result_count k n) same
    (λ here. (c.lets_control.ensures n here).0 c.if-not-lets_control.false) at)
    (cases_lt i c.loop-place.place)

pub returns : goal.returns
returns c = (
  λ e. record {
    underived = c.is_underived.ensures.0 c.if-not-is_underived.false;
    not_second = λ e. false≢true (sym c.if-is_second.false
        ∙ c.is_second.ensures.1 (ap (λ (f : Which → Option ℕ). f Second) c.controls-controls.ensures ∙ e));
    all = λ place n at.
        let l = slice_get_within c.args.operands.now.variables place n at in
        let all = ap length c.variables-place-end.ensures in
        subst (λ (f : Which → Option ℕ). LetsControl c.args.vars.now f c.args.operands.now.variables c.args.operands.now.result_count place
        n) c.controls-controls.ensures (c.loop-place.invariant place n (omega arith) at);
  },
  λ all. refl,
)
