use Rattle.std.proofs.Common.{◌≡◌, ◌≤◌, ◌<◌, ℕ, Option, None, Some, sym, ◌∙◌, arith}
use Rattle.std.proofs.lemmas.Bool.{false≢true}
use Rattle.meta_audit.proofs.Typed.{in_range, fitting_typed}
use Rattle.meta_inst.specs.Tables.{TableContents, ControlNumberFits}
use Rattle.meta_audit.proofs.controls.some_control.Goals as goal

-- if neither `None` fits nor a number of a type, nothing does
nothing_fits : (tables : TableContents) (offset : ℕ) → (ControlNumberFits tables offset None → ⊥)
    → ((n : ℕ) → 112 ≤ n → n < 384 → ControlNumberFits tables offset (Some n) → ⊥) → (c : Option ℕ) → ControlNumberFits tables offset c → ⊥
nothing_fits tables offset none numbers None fits = none fits
nothing_fits tables offset none numbers (Some n) fits = let r = in_range n (fitting_typed tables offset (Some n) fits)
    in numbers n r.0 r.1 fits

pub returns-clause-none : goal.returns-clause-none
returns-clause-none c =
    nothing_fits c.args.tables.now c.args.offset (λ fits. false≢true (sym c.if-control_fits.false ∙ c.control_fits.ensures.1 fits))
    (λ n low less. let past = c.loop-n-test.false in c.loop-n.invariant n low (omega (arith, less, past)))
