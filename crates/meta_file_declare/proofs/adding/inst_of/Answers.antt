use Rattle.std.proofs.Common.{◌∙◌, ap, Some}
use Rattle.std.proofs.lemmas.Result.{err_from_is_err_and}
use Rattle.meta_inst.specs.Builder.{Builder}
use Rattle.meta_file_types.proofs.Staying.{extends_more}
use Rattle.meta_file_declare.specs.Insts.{marks_added}
use Rattle.meta_file_declare.proofs.Items.{inputs_fail, outputs_fail, second_fails, built_with, inst_made}
use Rattle.meta_file_declare.proofs.adding.inst_of.Goals as goal

pub returns-in_err-inputs-clause-means : goal.returns-in_err-inputs-clause-means
returns-in_err-inputs-clause-means g c =
    let p = err_from_is_err_and c.from_residual.result c.from_residual.ensures.1 in
    rw (p.1, p.2) (inputs_fail g.said.words c.args.format c.args.item.now c.in_err-inputs.field-0.0 c.in_err-inputs.ensures.means)

pub returns-in_err-outputs-clause-means : goal.returns-in_err-outputs-clause-means
returns-in_err-outputs-clause-means g c =
    let p = err_from_is_err_and c.from_residual-in_err-outputs.result c.from_residual-in_err-outputs.ensures.1 in
    rw (p.1, p.2) (outputs_fail g.said.words c.args.format c.args.item.now c.in_ok-inputs.ensures.means.meaning c.in_err-outputs.field-0.0
    c.in_ok-inputs.ensures.means.is c.in_err-outputs.ensures.means)

pub returns-in_err-second-clause-means : goal.returns-in_err-second-clause-means
returns-in_err-second-clause-means g c =
    let p = err_from_is_err_and c.from_residual-in_err-second.result c.from_residual-in_err-second.ensures.1 in
    rw (p.1, p.2) (second_fails g.said.words c.args.format c.args.item.now c.in_ok-inputs.ensures.means.meaning
    c.in_ok-outputs.ensures.means.meaning c.in_err-second.field-0.0 c.in_ok-inputs.ensures.means.is c.in_ok-outputs.ensures.means.is
    c.in_err-second.ensures.means)

pub returns-clause-means : goal.returns-clause-means
returns-clause-means g c =
    let ins = c.in_ok-inputs.ensures.means in
    let outs = c.in_ok-outputs.ensures.means in
    inst_made g.said.words c.args.format c.args.item.now _ _ _ ins.meaning outs.meaning c.in_ok-inputs.inputs.items
    c.in_ok-outputs.outputs.items c.in_ok-second.second c.with_marks.result
    c.in_ok-outputs.ensures.extends c.in_ok-second.ensures.extends ins.is ins.by outs.is outs.by c.in_ok-second.ensures.means
    (c.with_marks.ensures
    ∙ (ap (λ (b : Builder). record b { marks = marks_added b.marks c.marks_in.result.now })
    (c.with_second-builder.ensures
    ∙ ap (λ (b : Builder). record b { second = c.in_ok-second.second })
    (c.operands_out.ensures
    ∙ ap (λ (b : Builder). record b { operands_out = Some c.in_ok-outputs.outputs.items })
    (c.operands_in-3.ensures ∙ ap (λ (b : Builder). record b { operands_in = Some c.in_ok-inputs.inputs.items }) c.in_ok-builder.ensures)))
    ∙ ap (built_with c.args.item.now c.args.format c.in_ok-inputs.inputs.items c.in_ok-outputs.outputs.items c.in_ok-second.second)
    c.marks_in.ensures))

pub returns-clause-extends : goal.returns-clause-extends
returns-clause-extends g c =
    extends_more _ _ _ c.in_ok-inputs.ensures.extends (extends_more _ _ _ c.in_ok-outputs.ensures.extends c.in_ok-second.ensures.extends)
