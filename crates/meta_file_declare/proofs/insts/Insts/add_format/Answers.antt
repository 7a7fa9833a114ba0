use Rattle.std.proofs.Common.{◌∙◌, sym, ap}
use Rattle.std.specs.Prelude.{Ok}
use Rattle.std.proofs.lemmas.Result.{err_from_is_err_and}
use Rattle.meta_file_types.specs.Held.{registered}
use Rattle.meta_file_declare.specs.Formats.{format_with}
use Rattle.meta_file_declare.specs.Held.{word_at}
use Rattle.meta_file_types.specs.Telling.{◌>>=◌}
use Rattle.meta_file_declare.proofs.Told.{fails_same}
use Rattle.meta_file_types.proofs.Told.{fails_on}
use Rattle.meta_file_declare.proofs.Items.{format_no_text, format_declared, format_new}
use Rattle.meta_file_declare.proofs.Naming.{format_more}
use Rattle.meta_file_declare.proofs.insts.Insts.add_format.Goals as goal

pub returns-then-not-is_text_format : goal.returns-then-not-is_text_format
returns-then-not-is_text_format g c = format_no_text g.above.types.words g.above.insts.formats c.args.item.now
    c.if-not-is_text_format.ensures

pub returns-in-Some : goal.returns-in-Some
returns-in-Some g c = rw (c.of.ensures ∙ c.as_slice-word.ensures) (format_declared g.above.types.words g.above.insts.formats c.args.item.now c.in-Some.kept
    c.if-not-is_text_format.ensures
    (sym (c.requires.1.words c.args.item.now.word) ∙ (ap (word_at c.args.self.now.words) (sym c.as_slice-word.ensures)
    ∙ sym c.in-Some.ensures)))

pub returns-in_err-format : goal.returns-in_err-format
returns-in_err-format g c =
    let p = err_from_is_err_and c.from_residual.result c.from_residual.ensures.1 in
    rw (p.1, p.2) (fails_same c.in_err-format.field-0.0 _ _
    (format_new g.above.types.words g.above.insts.formats c.args.item.now c.if-not-is_text_format.ensures
    (sym (c.requires.1.words c.args.item.now.word) ∙ (ap (word_at c.args.self.now.words) (sym c.as_slice-word.ensures)
    ∙ sym c.in_default.ensures)))
    (fails_on c.in_err-format.field-0.0 _ _ c.in_err-format.ensures))

pub returns : goal.returns
returns g c =
    let none = sym (c.requires.1.words c.args.item.now.word)
    ∙ (ap (word_at c.args.self.now.words) (sym c.as_slice-word.ensures) ∙ sym c.in_default.ensures) in
    let m = c.in_ok-format.ensures in
    record {
      meaning = format_with c.args.item.now m.meaning;
      is = format_new g.above.types.words g.above.insts.formats c.args.item.now c.if-not-is_text_format.ensures none
          ∙ ap (λ a. a >>= λ slots. Ok (format_with c.args.item.now slots)) m.is;
      by = format_more (registered c.args.types.now g.above.types) c.args.self.now c.declare_format.new.self g.above.insts
          c.args.item.now.word
          c.as_slice-word.result.now c.args.place (format_with c.args.item.now m.meaning) _ c.as_slice-word.ensures c.requires.1 none
          m.by c.in_ok-declare_format.ensures.formats
          c.in_ok-declare_format.ensures.words c.in_ok-declare_format.ensures.insts;
    }

pub format_of-requires : goal.format_of-requires
format_of-requires g c = (c.requires.0, sym c.if-not-is_text_format.ensures)
