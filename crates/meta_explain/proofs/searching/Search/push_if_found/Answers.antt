use Rattle.std.proofs.Common.{◌≡◌, ◌+◌, length, refl, sym, ◌∙◌, subst}
use Rattle.std.proofs.lemmas.Bool.{false≢true}
use Rattle.meta_inst.specs.Which.{Second}
use Rattle.meta_inst.specs.Tables.{ControlNumberFits}
use Rattle.meta_gen.specs.Constraint.{entry_of}
use Rattle.meta_explain.specs.Parts.{numbers_of}
use Rattle.meta_explain.specs.Search.{AllCanPass, IsFoundIn}
use Rattle.meta_explain.specs.declared.control_types.ControlTypes.{ControlTypes}
use Rattle.meta_explain.proofs.Adding.{adds_none, adds_one}
use Rattle.meta_explain.proofs.Typed.{fitting_types, fits_both}
use Rattle.meta_explain.proofs.searching.Search.push_if_found.Goals as goal

pub returns-then-not-control_fits : goal.returns-then-not-control_fits
returns-then-not-control_fits c =
    let s = c.args.self.now in
    let F = IsFoundIn s in
    adds_none (λ x. F x × (x.controls ≡ c.args.controls)) c.args.found.now.items
    (λ x (f, is). false≢true (sym c.if-not-control_fits.true ∙ c.control_fits.ensures.1
    (subst (λ (d : ControlTypes). ControlNumberFits s.tables.now s.entry.second_offset d.second) is (f.fits Second))))

pub returns-then-not-all_can_pass : goal.returns-then-not-all_can_pass
returns-then-not-all_can_pass c =
    let s = c.args.self.now in
    let F = IsFoundIn s in
    adds_none (λ x. F x × (x.controls ≡ c.args.controls)) c.args.found.now.items
    (λ x (f, is). false≢true (sym c.if-not-all_can_pass.true ∙ c.all_can_pass.ensures.1
    (subst (λ (d : ControlTypes). AllCanPass s.tables.now (numbers_of d) s.entry.constraint_offset s.results.now) is f.results_pass)))

pub returns-then-not-all_can_pass-2 : goal.returns-then-not-all_can_pass-2
returns-then-not-all_can_pass-2 c =
    let s = c.args.self.now in
    let F = IsFoundIn s in
    adds_none (λ x. F x × (x.controls ≡ c.args.controls)) c.args.found.now.items
    (λ x (f, is). false≢true (sym c.if-not-all_can_pass-2.true ∙ c.all_can_pass-2.ensures.1
    (subst (λ (d : ControlTypes). AllCanPass s.tables.now (numbers_of d) (s.entry.constraint_offset + length s.results.now) s.values.now)
    is f.values_pass)))

pub all_can_pass-requires-clause-types : goal.all_can_pass-requires-clause-types
all_can_pass-requires-clause-types c =
    let s = c.args.self.now in
    fitting_types s.tables.now (entry_of s.entry) c.args.controls c.requires.well_formed c.requires.fits
    (c.control_fits.ensures.0 c.if-not-control_fits.false)

pub all_can_pass-requires-2-clause-types : goal.all_can_pass-requires-2-clause-types
all_can_pass-requires-2-clause-types c =
    let s = c.args.self.now in
    fitting_types s.tables.now (entry_of s.entry) c.args.controls c.requires.well_formed c.requires.fits
    (c.control_fits.ensures.0 c.if-not-control_fits.false)

pub returns : goal.returns
returns c =
    let s = c.args.self.now in
    let F = IsFoundIn s in
    let e = entry_of s.entry in
    adds_one (λ x. F x × (x.controls ≡ c.args.controls)) c.args.found.now.items c.push.new.self.items
    (record { opcode = s.opcode; controls = c.args.controls }) c.in_ok-push.ensures.items (
      record {
        opcode = refl;
        fits = fits_both s.tables.now e c.args.controls c.requires.fits (c.control_fits.ensures.0 c.if-not-control_fits.false);
        results_pass = c.all_can_pass.ensures.0 c.if-not-all_can_pass.false;
        values_pass = c.all_can_pass-2.ensures.0 c.if-not-all_can_pass-2.false;
      },
      refl,
    )
    (λ x (f, is) i. record { opcode = sym f.opcode i; controls = sym is i })
