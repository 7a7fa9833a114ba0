use Rattle.std.proofs.Common.{codes}
use Rattle.std.proofs.lemmas.Result.{IfOk-from_err}
use Rattle.meta_types.specs.Function.{AsTruthy}
use Rattle.meta_types.specs.declared.derived_func.DerivedFunc.TheVariants.{AsTruthy as TruthyFunc}
use Rattle.meta_query.specs.Synth.{root_with}
use Rattle.meta_query.proofs.Held.{extends, within, two_of_root, one_derived, derived_added}
use Rattle.meta_query.proofs.values.comparing.Goals as goal

pub returns-clause-inputs : goal.returns-clause-inputs
returns-clause-inputs c = two_of_root c.args.vars.now c.as_truthy.new.vars c.args.x c.in_ok-truthy.ensures.grows c.requires.of
    c.requires.root (codes "x") (codes "y") c.in_ok-inputs.inputs.items (c.in_ok-inputs.ensures c.as_truthy.new.vars
    (within c.args.vars.now c.as_truthy.new.vars c.args.x c.in_ok-truthy.ensures.grows c.requires.of c.requires.root))

pub returns-clause-outputs : goal.returns-clause-outputs
returns-clause-outputs c =
    let made = c.in_ok-truthy.ensures.derives.answer in
    one_derived c.args.vars.now c.as_truthy.new.vars c.args.x c.in_ok-truthy.truthy AsTruthy (codes "a")
    c.in_ok-outputs.outputs.items c.requires.root made.1 (c.in_ok-outputs.ensures c.as_truthy.new.vars made.0)

pub returns-clause-grows : goal.returns-clause-grows
returns-clause-grows c = extends c.in_ok-truthy.ensures.grows

pub returns-in_err-truthy-clause-inputs : goal.returns-in_err-truthy-clause-inputs
returns-in_err-truthy-clause-inputs c = IfOk-from_err c.from_residual.result _ c.from_residual.ensures.0

pub returns-in_err-truthy-clause-outputs : goal.returns-in_err-truthy-clause-outputs
returns-in_err-truthy-clause-outputs c = IfOk-from_err c.from_residual.result _ c.from_residual.ensures.0

pub returns-in_err-truthy-clause-grows : goal.returns-in_err-truthy-clause-grows
returns-in_err-truthy-clause-grows c = IfOk-from_err c.from_residual.result _ c.from_residual.ensures.0

pub returns-in_err-inputs-clause-inputs : goal.returns-in_err-inputs-clause-inputs
returns-in_err-inputs-clause-inputs c = IfOk-from_err c.from_residual-in_err-inputs.result _ c.from_residual-in_err-inputs.ensures.0

pub returns-in_err-inputs-clause-outputs : goal.returns-in_err-inputs-clause-outputs
returns-in_err-inputs-clause-outputs c = IfOk-from_err c.from_residual-in_err-inputs.result _ c.from_residual-in_err-inputs.ensures.0

pub returns-in_err-inputs-clause-grows : goal.returns-in_err-inputs-clause-grows
returns-in_err-inputs-clause-grows c = IfOk-from_err c.from_residual-in_err-inputs.result _ c.from_residual-in_err-inputs.ensures.0

pub returns-in_err-outputs-clause-inputs : goal.returns-in_err-outputs-clause-inputs
returns-in_err-outputs-clause-inputs c = IfOk-from_err c.from_residual-in_err-outputs.result _ c.from_residual-in_err-outputs.ensures.0

pub returns-in_err-outputs-clause-outputs : goal.returns-in_err-outputs-clause-outputs
returns-in_err-outputs-clause-outputs c = IfOk-from_err c.from_residual-in_err-outputs.result _ c.from_residual-in_err-outputs.ensures.0

pub returns-in_err-outputs-clause-grows : goal.returns-in_err-outputs-clause-grows
returns-in_err-outputs-clause-grows c = IfOk-from_err c.from_residual-in_err-outputs.result _ c.from_residual-in_err-outputs.ensures.0

pub returns-clause-added : goal.returns-clause-added
returns-clause-added c = λ s kept. derived_added c.args.vars.now c.as_truthy.new.vars s c.args.x TruthyFunc kept
    (c.in_ok-truthy.ensures.derives.added (c.requires.fresh TruthyFunc) (root_with s c.args.x) kept)

pub returns-in_err-truthy-clause-added : goal.returns-in_err-truthy-clause-added
returns-in_err-truthy-clause-added c = λ _ _. IfOk-from_err c.from_residual.result _ c.from_residual.ensures.0

pub returns-in_err-inputs-clause-added : goal.returns-in_err-inputs-clause-added
returns-in_err-inputs-clause-added c = λ _ _. IfOk-from_err c.from_residual-in_err-inputs.result _ c.from_residual-in_err-inputs.ensures.0

pub returns-in_err-outputs-clause-added : goal.returns-in_err-outputs-clause-added
returns-in_err-outputs-clause-added c =
    λ _ _. IfOk-from_err c.from_residual-in_err-outputs.result _ c.from_residual-in_err-outputs.ensures.0
