use Rattle.std.proofs.Common.{◌≤◌, length, arith, refl, sym, subst}
use Rattle.std.proofs.lemmas.Option.{slice_get_read}
use Rattle.std.proofs.lemmas.Result.{IfOk-from_err}
use Rattle.meta_inst.specs.Instruction.{Instruction}
use Rattle.meta_inst.specs.InstructionSet.{root_sets}
use Rattle.meta_build.specs.BuiltInstructions.{IsBuiltAt}
use Rattle.meta_build.specs.Interned.{AddsNeeded}
use Rattle.meta_build.proofs.BuiltOperands.{within_is, variables_are, built_control_is, controls_are, meaning}
use Rattle.meta_build.proofs.Interning.{IsInterned, none_yet, all_interned}
use Rattle.meta_build.proofs.Needing.{instruction_more}
use Rattle.meta_build.proofs.needed.needed_sets.Goals as goal
use Rattle.meta_build.proofs.needed.needed_sets.Goals.{After-index-instructions-place}

-- the instruction that was read is built of the declared one
read : (c : After-index-instructions-place) → IsBuiltAt c.args.set.now c.loop-place.place c.index-instructions-place.result
read c = c.requires.built.each c.loop-place.place c.index-instructions-place.result
    (slice_get_read c.args.instructions.now _ _ _ refl c.loop-place-test.true c.index-instructions-place.is)

pub loop-place-init : goal.loop-place-init
loop-place-init c = subst (IsInterned c.args.set.now 0 0) (sym c.new-type_sets.ensures) (none_yet c.args.set.now)

pub intern_instruction-requires-clause-within : goal.intern_instruction-requires-clause-within
intern_instruction-requires-clause-within c = let h = read c in within_is c.args.set.now h.builder _ h.is

pub intern_instruction-requires-clause-variables : goal.intern_instruction-requires-clause-variables
intern_instruction-requires-clause-variables c = let h = read c
    in rw c.vars.ensures.vars (variables_are c.args.set.now h.builder _ h.is (c.requires.fits c.loop-place.place h.builder h.at))

pub intern_instruction-requires-clause-control : goal.intern_instruction-requires-clause-control
intern_instruction-requires-clause-control c = let h = read c in rw c.vars.ensures.vars (built_control_is c.args.set.now h.builder _ h.is)

pub intern_instruction-requires-clause-controls : goal.intern_instruction-requires-clause-controls
intern_instruction-requires-clause-controls c = let h = read c
    in rw c.vars.ensures.vars (controls_are c.args.set.now h.builder _ h.is (c.requires.fits c.loop-place.place h.builder h.at))

pub loop-place-preserved : goal.loop-place-preserved
loop-place-preserved c =
    let d = c.args.set.now in
    let x = c.index-instructions-place.result in
    let h : IsBuiltAt d c.loop-place.place x =
    c.requires.built.each c.loop-place.place x
    (slice_get_read c.args.instructions.now _ _ _ refl c.loop-place-test.true c.index-instructions-place.is) in
    let added = rw c.vars.ensures.vars at c.in_ok-intern_instruction.ensures in
    instruction_more d c.loop-place.place h.builder h.at c.loop-place.type_sets c.intern_instruction.new.type_sets c.vars.ensures.sets
    c.loop-place.invariant
    (subst (λ (i : Instruction). AddsNeeded (root_sets d) i c.loop-place.type_sets c.intern_instruction.new.type_sets)
    (meaning d h.builder x h.is) added)

pub returns : goal.returns
returns c =
    let count = c.requires.built.count in
    let past = c.loop-place-test.false in
    let end : length c.args.set.now.instructions ≤ c.loop-place.place = omega arith in
    all_interned c.args.set.now c.loop-place.place c.loop-place.type_sets end c.loop-place.invariant

pub returns-in_err-intern_instruction : goal.returns-in_err-intern_instruction
returns-in_err-intern_instruction c = IfOk-from_err c.from_residual.result _ c.from_residual.ensures.0
