use Rattle.std.proofs.Common.{◌≡◌, ◌+◌, ◌∙◌, sym, ap, subst, refl, Some, length, arith}
use Rattle.std.specs.Bool.{IsTrue}
use Rattle.std.proofs.lemmas.Result.{IfOk-from_err}
use Rattle.meta_types.specs.Function.{Narrower}
use Rattle.meta_typevar.specs.Image.{can_derive}
use Rattle.meta_inst.specs.Builder.{Builder}
use Rattle.meta_query.proofs.Choosing.{can_narrow}
use Rattle.meta_query.proofs.Growing.{new_root, root_of, root_coded, is_made}
use Rattle.meta_lists.proofs.Pushed.{one_longer}
use Rattle.meta_query.specs.Seeds.{set_of_seed}
use Rattle.meta_query.proofs.Held.{root_added, extends_after, none_derived, variables_added}
use Rattle.meta_query.proofs.instructions.instruction.Goals as goal

pub values_of-requires-clause-derivable : goal.values_of-requires-clause-derivable
values_of-requires-clause-derivable c = λ e.
    let kept = new_root c.args.vars.now c.add_root.new.vars c.seed_of-seed.result c.in_ok-x.x c.in_ok-x.ensures.number
    c.in_ok-x.ensures.added in
    subst (λ s. IsTrue (can_derive Narrower s)) (sym (root_coded c.add_root.new.vars c.seed_of-seed.result c.in_ok-x.x kept))
    (can_narrow c.seed_of-seed.result (sym c.shape_of-shape.ensures ∙ e))

pub returns-clause-instruction : goal.returns-clause-instruction
returns-clause-instruction c =
    let kept = new_root c.args.vars.now c.add_root.new.vars c.seed_of-seed.result c.in_ok-x.x c.in_ok-x.ensures.number
    c.in_ok-x.ensures.added in
    is_made {seed = c.seed_of-seed.result} {x = c.in_ok-x.x} {shape = c.shape_of-shape.result} {inputs =
    c.in_ok-values.values.inputs.items} {outputs = c.in_ok-values.values.outputs.items}
    c.seed_of-seed.ensures c.shape_of-shape.ensures c.in_ok-x.ensures.number kept
    c.in_ok-values.ensures.grows c.in_ok-values.ensures.inputs c.in_ok-values.ensures.outputs
    (c.operands_out.ensures
    ∙ ap (λ (b : Builder). record b { operands_out = Some c.in_ok-values.values.outputs.items })
    (c.operands_in-builder.ensures
    ∙ ap (λ (b : Builder). record b { operands_in = Some c.in_ok-values.values.inputs.items }) c.in_ok-builder.ensures))

pub values_of-requires-clause-root : goal.values_of-requires-clause-root
values_of-requires-clause-root c =
    let kept = new_root c.args.vars.now c.add_root.new.vars c.seed_of-seed.result c.in_ok-x.x c.in_ok-x.ensures.number
    c.in_ok-x.ensures.added in
    root_added c.add_root.new.vars c.in_ok-x.x (root_of c.seed_of-seed.result c.in_ok-x.x) kept refl refl

pub returns-clause-grows : goal.returns-clause-grows
returns-clause-grows c = extends_after c.args.vars.now c.add_root.new.vars c.values_of.new.vars
    (root_of c.seed_of-seed.result (length c.args.vars.now)) c.in_ok-x.ensures.added c.in_ok-values.ensures.grows

pub returns-in_err-x-clause-instruction : goal.returns-in_err-x-clause-instruction
returns-in_err-x-clause-instruction c = IfOk-from_err c.from_residual.result _ c.from_residual.ensures.0

pub returns-in_err-x-clause-grows : goal.returns-in_err-x-clause-grows
returns-in_err-x-clause-grows c = IfOk-from_err c.from_residual.result _ c.from_residual.ensures.0

pub returns-in_err-values-clause-instruction : goal.returns-in_err-values-clause-instruction
returns-in_err-values-clause-instruction c = IfOk-from_err c.from_residual-in_err-values.result _ c.from_residual-in_err-values.ensures.0

pub returns-in_err-values-clause-grows : goal.returns-in_err-values-clause-grows
returns-in_err-values-clause-grows c = IfOk-from_err c.from_residual-in_err-values.result _ c.from_residual-in_err-values.ensures.0

pub returns-in_err-builder-clause-instruction : goal.returns-in_err-builder-clause-instruction
returns-in_err-builder-clause-instruction c = IfOk-from_err c.from_residual-in_err-builder.result _ c.from_residual-in_err-builder.ensures.0

pub returns-in_err-builder-clause-grows : goal.returns-in_err-builder-clause-grows
returns-in_err-builder-clause-grows c = IfOk-from_err c.from_residual-in_err-builder.result _ c.from_residual-in_err-builder.ensures.0

pub values_of-requires-clause-fresh : goal.values_of-requires-clause-fresh
values_of-requires-clause-fresh c =
    let longer = one_longer c.args.vars.now c.add_root.new.vars
    (root_of c.seed_of-seed.result (length c.args.vars.now)) c.in_ok-x.ensures.added in
    none_derived c.add_root.new.vars c.in_ok-x.x c.len-count.ensures.registry (omega (arith, longer, c.in_ok-x.ensures.number))

pub returns-clause-added : goal.returns-clause-added
returns-clause-added c =
    let kept = new_root c.args.vars.now c.add_root.new.vars c.seed_of-seed.result c.in_ok-x.x c.in_ok-x.ensures.number
    c.in_ok-x.ensures.added in
    variables_added c.args.vars.now c.add_root.new.vars c.values_of.new.vars c.args.n c.args.number
    c.seed_of-seed.result c.in_ok-x.x c.shape_of-shape.result
    c.seed_of-seed.ensures c.shape_of-shape.ensures c.in_ok-x.ensures.number c.in_ok-x.ensures.added
    (c.in_ok-values.ensures.added (set_of_seed c.seed_of-seed.result) kept)

pub returns-in_err-x-clause-added : goal.returns-in_err-x-clause-added
returns-in_err-x-clause-added c = IfOk-from_err c.from_residual.result _ c.from_residual.ensures.0

pub returns-in_err-values-clause-added : goal.returns-in_err-values-clause-added
returns-in_err-values-clause-added c = IfOk-from_err c.from_residual-in_err-values.result _ c.from_residual-in_err-values.ensures.0

pub returns-in_err-builder-clause-added : goal.returns-in_err-builder-clause-added
returns-in_err-builder-clause-added c = IfOk-from_err c.from_residual-in_err-builder.result _ c.from_residual-in_err-builder.ensures.0
