use Rattle.std.proofs.Common.{◌≡◌, ℕ, List, ap, sym, subst, refl, ◌∙◌, None, Some}
use Rattle.std.proofs.lemmas.Result.{IfOk-from_err}
use Rattle.meta_inst.specs.Builder.{Builder}
use Rattle.meta_inst.specs.Marks.{no_marks}
use Rattle.meta_shared.specs.Formats.{id_of}
use Rattle.meta_shared.specs.Words.{Meanings}
use Rattle.meta_shared.specs.declared.row.Row.{Row}
use Rattle.meta_shared.specs.Rows.{IsBuilderOf, marks_added}
use Rattle.meta_shared.proofs.Growing.{meant_grows, grows_more, operands_grow}
use Rattle.meta_shared.proofs.declaring.instruction.Goals as goal

abbrev the_builder : List ℕ → List ℕ → ℕ → Builder
the_builder name doc format =
    record { name = name; doc = doc; format = format; operands_in = None; operands_out = None; marks = no_marks; second = None }

made : (row : Row) (m : Meanings) (name doc : List ℕ) (format : ℕ) → name ≡ row.name.now → doc ≡ row.doc.now
    → format ≡ id_of m.formats row.format
    → the_builder name doc format ≡ the_builder row.name.now row.doc.now (id_of m.formats row.format)
made row m name doc format a b e =
    λ i. the_builder (a i) (b i) (e i)

pub operands-requires-2-clause-meant : goal.operands-requires-2-clause-meant
operands-requires-2-clause-meant c = meant_grows c.in_ok-inputs.ensures.grows c.requires.meant

pub returns-clause-grows : goal.returns-clause-grows
returns-clause-grows c = grows_more c.in_ok-inputs.ensures.grows c.in_ok-outputs.ensures.grows

pub returns-clause-builder : goal.returns-clause-builder
returns-clause-builder c = subst (IsBuilderOf c.operands-2.new.vars c.args.names.now c.args.row.now)
    (sym (c.with_marks.ensures
    ∙ ap (λ (b : Builder). record b { marks = marks_added b.marks c.args.row.now.marks.now })
    (c.operands_out-builder.ensures
    ∙ ap (λ (b : Builder). record b { operands_out = Some c.in_ok-outputs.outputs.items })
    (c.operands_in.ensures ∙ ap (λ (b : Builder). record b { operands_in = Some c.in_ok-inputs.inputs.items })
    (c.new-builder.ensures ∙ made c.args.row.now c.args.names.now _ _ _ c.in_ok-name.ensures c.in_ok-doc.ensures
    (c.id.ensures ∙ ap (λ (m : Meanings). id_of m.formats c.args.row.now.format) c.names.view_is))))))
    (record {
      name = refl;
      doc = refl;
      format = refl;
      inputs = operands_grow _ _ _ c.in_ok-outputs.ensures.grows c.in_ok-inputs.ensures.operands;
      outputs = c.in_ok-outputs.ensures.operands;
      marks = refl;
      second = refl;
    })

pub returns-in_err-inputs-clause-builder : goal.returns-in_err-inputs-clause-builder
returns-in_err-inputs-clause-builder c = IfOk-from_err c.from_residual.result _ c.from_residual.ensures.0

pub returns-in_err-inputs-clause-grows : goal.returns-in_err-inputs-clause-grows
returns-in_err-inputs-clause-grows c = IfOk-from_err c.from_residual.result _ c.from_residual.ensures.0

pub returns-in_err-outputs-clause-builder : goal.returns-in_err-outputs-clause-builder
returns-in_err-outputs-clause-builder c = IfOk-from_err c.from_residual-in_err-outputs.result _ c.from_residual-in_err-outputs.ensures.0

pub returns-in_err-outputs-clause-grows : goal.returns-in_err-outputs-clause-grows
returns-in_err-outputs-clause-grows c = IfOk-from_err c.from_residual-in_err-outputs.result _ c.from_residual-in_err-outputs.ensures.0

pub returns-in_err-name-clause-builder : goal.returns-in_err-name-clause-builder
returns-in_err-name-clause-builder c = IfOk-from_err c.from_residual-in_err-name.result _ c.from_residual-in_err-name.ensures.0

pub returns-in_err-name-clause-grows : goal.returns-in_err-name-clause-grows
returns-in_err-name-clause-grows c = IfOk-from_err c.from_residual-in_err-name.result _ c.from_residual-in_err-name.ensures.0

pub returns-in_err-doc-clause-builder : goal.returns-in_err-doc-clause-builder
returns-in_err-doc-clause-builder c = IfOk-from_err c.from_residual-in_err-doc.result _ c.from_residual-in_err-doc.ensures.0

pub returns-in_err-doc-clause-grows : goal.returns-in_err-doc-clause-grows
returns-in_err-doc-clause-grows c = IfOk-from_err c.from_residual-in_err-doc.result _ c.from_residual-in_err-doc.ensures.0
