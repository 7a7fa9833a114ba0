use Rattle.std.proofs.Common.{◌∙◌, sym, ap, refl}
use Rattle.std.proofs.lemmas.Result.{err_from_is_err_and}
use Rattle.meta_file_declare.specs.Held.{word_at}
use Rattle.meta_file_declare.proofs.Told.{fails_same}
use Rattle.meta_file_declare.proofs.Items.{inst_no_text, no_format, inst_known}
use Rattle.meta_file_declare.proofs.Naming.{inst_more}
use Rattle.meta_file_declare.proofs.Staying.{holds_stay}
use Rattle.meta_file_declare.proofs.insts.Insts.add_inst.Goals as goal

pub returns-then-not-is_text_inst-clause-means : goal.returns-then-not-is_text_inst-clause-means
returns-then-not-is_text_inst-clause-means g c =
    inst_no_text g.above.types.words g.above.insts.formats c.args.item.now c.if-not-is_text_inst.ensures

pub returns-in_default-clause-means : goal.returns-in_default-clause-means
returns-in_default-clause-means g c =
    rw (c.of.ensures ∙ c.as_slice-word.ensures)
    (no_format g.above.types.words g.above.insts.formats c.args.item.now c.if-not-is_text_inst.ensures
    (sym (c.requires.1.words c.args.item.now.format) ∙ (ap (word_at c.args.self.now.words) (sym c.as_slice-word.ensures)
    ∙ sym c.in_default.ensures)))

pub returns-in_err-builder-clause-means : goal.returns-in_err-builder-clause-means
returns-in_err-builder-clause-means g c =
    let p = err_from_is_err_and c.from_residual.result c.from_residual.ensures.1 in
    rw (p.1, p.2) (fails_same c.in_err-builder.field-0.0 _ _
    (inst_known g.above.types.words g.above.insts.formats c.args.item.now c.in-Some.format c.if-not-is_text_inst.ensures
    (sym (c.requires.1.words c.args.item.now.format) ∙ (ap (word_at c.args.self.now.words) (sym c.as_slice-word.ensures)
    ∙ sym c.in-Some.ensures)))
    c.in_err-builder.ensures.means)

pub returns-clause-means : goal.returns-clause-means
returns-clause-means g c =
    let m = c.in_ok-builder.ensures.means in
    record {
      meaning = m.meaning;
      is = inst_known g.above.types.words g.above.insts.formats c.args.item.now c.in-Some.format c.if-not-is_text_inst.ensures
          (sym (c.requires.1.words c.args.item.now.format)
          ∙ (ap (word_at c.args.self.now.words) (sym c.as_slice-word.ensures) ∙ sym c.in-Some.ensures)) ∙ m.is;
      by = inst_more _ c.args.self.now _ g.above.insts m.meaning c.in_ok-builder.builder
          (holds_stay _ _ c.args.self.now g.above.insts c.in_ok-builder.ensures.extends c.requires.1) m.by refl refl c.in_ok-push.ensures;
    }

pub inst_of-requires : goal.inst_of-requires
inst_of-requires g c = (c.requires.0, sym c.if-not-is_text_inst.ensures)
