use Rattle.std.proofs.Common.{refl, subst, arith, ◌≡◌, length}
use Rattle.std.proofs.lemmas.Option.{slice_get_read}
use Rattle.meta_build.specs.Interned.{AddsEach, IsFreeSetAt}
use Rattle.meta_build.proofs.Needing.{one_variable_more}
use Rattle.meta_build.proofs.needed.intern_free.Goals as goal

pub loop-place-preserved : goal.loop-place-preserved
loop-place-preserved c = one_variable_more _ _ _ _ _ _ _ _
    (slice_get_read c.args.variables.now _ c.loop-place.place c.index-variables-place.result refl
    c.loop-place-test.true c.index-variables-place.is) c.loop-place.invariant c.in_ok-intern_operand.ensures

pub returns : goal.returns
returns c =
    let past = c.loop-place-test.false in
    let within = c.loop-place.auto.place-end in
    let end : c.loop-place.place ≡ length c.args.variables.now = omega arith in
    subst (λ n. AddsEach (IsFreeSetAt c.args.vars.now c.args.controls.now c.args.variables.now) n c.args.type_sets.now
    c.loop-place.type_sets) end c.loop-place.invariant
