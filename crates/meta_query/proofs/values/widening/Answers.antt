use Rattle.std.proofs.Common.{codes}
use Rattle.std.proofs.lemmas.Result.{IfOk-from_err}
use Rattle.meta_types.specs.Function.{Narrower}
use Rattle.meta_types.specs.declared.derived_func.DerivedFunc.TheVariants.{Narrower as NarrowerFunc}
use Rattle.meta_query.specs.Synth.{root_with}
use Rattle.meta_query.proofs.Held.{extends, within, one_of_root, one_derived, derived_added}
use Rattle.meta_query.proofs.values.widening.Goals as goal

pub returns-clause-inputs : goal.returns-clause-inputs
returns-clause-inputs c =
    let made = c.in_ok-narrower.ensures.derives.answer in
    one_derived c.args.vars.now c.narrower.new.vars c.args.x c.in_ok-narrower.narrower Narrower (codes "x")
    c.in_ok-inputs.inputs.items c.requires.root made.1 (c.in_ok-inputs.ensures c.narrower.new.vars made.0)

pub returns-clause-outputs : goal.returns-clause-outputs
returns-clause-outputs c = one_of_root c.args.vars.now c.narrower.new.vars c.args.x c.in_ok-narrower.ensures.grows c.requires.of
    c.requires.root (codes "a") c.in_ok-outputs.outputs.items (c.in_ok-outputs.ensures c.narrower.new.vars
    (within c.args.vars.now c.narrower.new.vars c.args.x c.in_ok-narrower.ensures.grows c.requires.of c.requires.root))

pub returns-clause-grows : goal.returns-clause-grows
returns-clause-grows c = extends c.in_ok-narrower.ensures.grows

pub returns-in_err-narrower-clause-inputs : goal.returns-in_err-narrower-clause-inputs
returns-in_err-narrower-clause-inputs c = IfOk-from_err c.from_residual.result _ c.from_residual.ensures.0

pub returns-in_err-narrower-clause-outputs : goal.returns-in_err-narrower-clause-outputs
returns-in_err-narrower-clause-outputs c = IfOk-from_err c.from_residual.result _ c.from_residual.ensures.0

pub returns-in_err-narrower-clause-grows : goal.returns-in_err-narrower-clause-grows
returns-in_err-narrower-clause-grows c = IfOk-from_err c.from_residual.result _ c.from_residual.ensures.0

pub returns-in_err-inputs-clause-inputs : goal.returns-in_err-inputs-clause-inputs
returns-in_err-inputs-clause-inputs c = IfOk-from_err c.from_residual-in_err-inputs.result _ c.from_residual-in_err-inputs.ensures.0

pub returns-in_err-inputs-clause-outputs : goal.returns-in_err-inputs-clause-outputs
returns-in_err-inputs-clause-outputs c = IfOk-from_err c.from_residual-in_err-inputs.result _ c.from_residual-in_err-inputs.ensures.0

pub returns-in_err-inputs-clause-grows : goal.returns-in_err-inputs-clause-grows
returns-in_err-inputs-clause-grows c = IfOk-from_err c.from_residual-in_err-inputs.result _ c.from_residual-in_err-inputs.ensures.0

pub returns-in_err-outputs-clause-inputs : goal.returns-in_err-outputs-clause-inputs
returns-in_err-outputs-clause-inputs c = IfOk-from_err c.from_residual-in_err-outputs.result _ c.from_residual-in_err-outputs.ensures.0

pub returns-in_err-outputs-clause-outputs : goal.returns-in_err-outputs-clause-outputs
returns-in_err-outputs-clause-outputs c = IfOk-from_err c.from_residual-in_err-outputs.result _ c.from_residual-in_err-outputs.ensures.0

pub returns-in_err-outputs-clause-grows : goal.returns-in_err-outputs-clause-grows
returns-in_err-outputs-clause-grows c = IfOk-from_err c.from_residual-in_err-outputs.result _ c.from_residual-in_err-outputs.ensures.0

pub returns-clause-added : goal.returns-clause-added
returns-clause-added c = λ s kept. derived_added c.args.vars.now c.narrower.new.vars s c.args.x NarrowerFunc kept
    (c.in_ok-narrower.ensures.derives.added (c.requires.fresh NarrowerFunc) (root_with s c.args.x) kept)

pub returns-in_err-narrower-clause-added : goal.returns-in_err-narrower-clause-added
returns-in_err-narrower-clause-added c = λ _ _. IfOk-from_err c.from_residual.result _ c.from_residual.ensures.0

pub returns-in_err-inputs-clause-added : goal.returns-in_err-inputs-clause-added
returns-in_err-inputs-clause-added c = λ _ _. IfOk-from_err c.from_residual-in_err-inputs.result _ c.from_residual-in_err-inputs.ensures.0

pub returns-in_err-outputs-clause-added : goal.returns-in_err-outputs-clause-added
returns-in_err-outputs-clause-added c =
    λ _ _. IfOk-from_err c.from_residual-in_err-outputs.result _ c.from_residual-in_err-outputs.ensures.0
