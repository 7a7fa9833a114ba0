use Rattle.std.proofs.Common.{◌≡◌, sym, ◌∙◌, subst, arith}
use Rattle.std.proofs.lemmas.Bool.{false≢true}
use Rattle.meta_inst.specs.Which.{First}
use Rattle.meta_inst.specs.Tables.{ControlNumberFits}
use Rattle.meta_explain.specs.Search.{IsFoundIn}
use Rattle.meta_explain.proofs.Adding.{adds_none, seconds_none, seconds_more, seconds_all}
use Rattle.meta_explain.proofs.searching.Search.push_under.Goals as goal

pub returns-then-not-control_fits : goal.returns-then-not-control_fits
returns-then-not-control_fits c =
    let s = c.args.self.now in
    let F = IsFoundIn s in
    adds_none (λ x. F x × (x.controls.ctrl ≡ c.args.ctrl)) c.args.found.now.items
    (λ x (f, is). false≢true (sym c.if-not-control_fits.true ∙ c.control_fits.ensures.1
    (subst (ControlNumberFits s.tables.now s.entry.typeset_offset) is (f.fits First))))

pub push_if_found-requires-clause-fits : goal.push_if_found-requires-clause-fits
push_if_found-requires-clause-fits c = c.control_fits.ensures.0 c.if-not-control_fits.false

pub control_at-second-requires : goal.control_at-second-requires
control_at-second-requires c =
    let few = c.places-places.ensures.few in
    let inside = c.loop-place-test.true in
    omega arith

pub loop-place-init : goal.loop-place-init
loop-place-init c =
    let s = c.args.self.now in
    let F = IsFoundIn s in
    seconds_none F s.opcode (λ x f. f.opcode) c.args.ctrl c.places-places.result.from c.args.found.now.items
    (λ x f. (c.places-places.ensures.within x f).0)

pub loop-place-preserved : goal.loop-place-preserved
loop-place-preserved c =
    let s = c.args.self.now in
    let F = IsFoundIn s in
    seconds_more F s.opcode (λ x f. f.opcode) c.args.ctrl c.control_at-second.result c.loop-place.place c.args.found.now.items
    c.loop-place.found.items c.push_if_found.new.found.items c.control_at-second.ensures c.loop-place.invariant
    c.in_ok-push_if_found.ensures

pub returns : goal.returns
returns c =
    let s = c.args.self.now in
    let F = IsFoundIn s in
    let past = c.loop-place-test.false in
    seconds_all F s.opcode (λ x f. f.opcode) c.args.ctrl c.loop-place.place c.args.found.now.items c.loop-place.found.items
    (λ x f. let l = (c.places-places.ensures.within x f).1 in omega (arith, l, past)) c.loop-place.invariant
