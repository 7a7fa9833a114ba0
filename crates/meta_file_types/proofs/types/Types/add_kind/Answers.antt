use Rattle.std.proofs.Common.{◌∙◌, sym, ap, subst, refl}
use Rattle.std.specs.Prelude.{Result}
use Rattle.meta_file_types.specs.declared.refused.Reason.{Reason}
use Rattle.meta_file_types.specs.declared.words.Meaning.TheVariants as meanings
use Rattle.meta_file_types.specs.declared.types.Types.{Types}
use Rattle.meta_file_types.specs.Meant.{MeantKind, KindSense}
use Rattle.meta_file_types.specs.Said.{after_sort, kind_with, with_kind}
use Rattle.meta_file_types.specs.Telling.{reason_in}
use Rattle.meta_file_types.specs.Registered.{AreFieldsIn, Extends}
use Rattle.meta_file_types.specs.Held.{registered, Holds}
use Rattle.meta_file_types.proofs.Checked.{word_free, refuses_residual}
use Rattle.meta_file_types.proofs.Growing.{word_held}
use Rattle.meta_file_types.proofs.Steps.{kind_word, kind_right}
use Rattle.meta_file_types.proofs.TextParts.{kind_sort}
use Rattle.meta_file_types.proofs.types.Types.add_kind.Goals as goal

pub returns-clause-tells : goal.returns-clause-tells
returns-clause-tells g c =
    ap reason_in (
    kind_right g.said.words c.args.item.now c.in_ok-fields.ensures.means.meaning
    (sym c.is_text_kind.ensures ∙ c.if-not-is_text_kind.false) c.in_ok-fields.ensures.means.is
    (c.in_ok-check_word.ensures (after_sort g.said c.args.item.now.sort) c.in_ok-fields.ensures.holds)
    )

pub returns-clause-added : goal.returns-clause-added
returns-clause-added g c =
    let right =
    kind_right g.said.words c.args.item.now c.in_ok-fields.ensures.means.meaning
    (sym c.is_text_kind.ensures ∙ c.if-not-is_text_kind.false) c.in_ok-fields.ensures.means.is
    (c.in_ok-check_word.ensures (after_sort g.said c.args.item.now.sort) c.in_ok-fields.ensures.holds) in
    let after = after_sort g.said c.args.item.now.sort in
    let sort = c.in_ok-fields.ensures.means.meaning in
    let now : Types = record {
      vars = c.sort_of.new.self.vars;
      plain = c.sort_of.new.self.plain;
      words = c.insert.new.self;
    } in
    subst (λ (a : Result MeantKind Reason). Holds now (with_kind after c.args.item.now.word c.args.place a)) (sym right)
    (word_held (registered c.sort_of.new.self after) c.sort_of.new.self.plain.items g.said.roots g.said.words
    (record { word = c.args.item.now.word; place = c.args.place; sense = KindSense (kind_with c.args.item.now sort) })
    c.sort_of.new.self.words c.insert.new.self (record { place = c.args.place; meaning = meanings.Kind c.in_ok-kind_with.field-0 })
    c.in_ok-fields.ensures.holds
    (record {
      place = refl;
      meaning = record {
        field = c.in_ok-kind_with.ensures.field;
        rust = c.in_ok-kind_with.ensures.rust;
        sort = subst (AreFieldsIn (registered c.sort_of.new.self after) sort)
            (sym c.in_ok-kind_with.ensures.fields) c.in_ok-fields.ensures.means.by;
        doc = c.in_ok-kind_with.ensures.doc;
      };
    })
    (word_free g.said.words c.args.item.now.word (c.in_ok-check_word.ensures after c.in_ok-fields.ensures.holds)) c.in_ok-insert.ensures)

pub returns-clause-extends : goal.returns-clause-extends
returns-clause-extends g c =
    let right =
    kind_right g.said.words c.args.item.now c.in_ok-fields.ensures.means.meaning
    (sym c.is_text_kind.ensures ∙ c.if-not-is_text_kind.false) c.in_ok-fields.ensures.means.is
    (c.in_ok-check_word.ensures (after_sort g.said c.args.item.now.sort) c.in_ok-fields.ensures.holds) in
    let after = after_sort g.said c.args.item.now.sort in
    let now : Types = record {
      vars = c.sort_of.new.self.vars;
      plain = c.sort_of.new.self.plain;
      words = c.insert.new.self;
    } in
    subst (λ (a : Result MeantKind Reason). Extends (registered c.args.self.now g.said)
    (registered now (with_kind after c.args.item.now.word c.args.place a))) (sym right) c.in_ok-fields.ensures.extends

pub returns-in_err-check_word-clause-tells : goal.returns-in_err-check_word-clause-tells
returns-in_err-check_word-clause-tells g c =
    let after = after_sort g.said c.args.item.now.sort in
    refuses_residual c.from_residual-in_err-check_word.result c.in_err-check_word.field-0.0 _ c.from_residual-in_err-check_word.ensures
    (kind_word g.said.words c.args.item.now c.in_err-check_word.field-0.0 (registered c.sort_of.new.self after) c.in_ok-fields.fields
    (sym c.is_text_kind.ensures ∙ c.if-not-is_text_kind.false) c.in_ok-fields.ensures.means
    (c.in_err-check_word.ensures after c.in_ok-fields.ensures.holds))

pub sort_of-requires : goal.sort_of-requires
sort_of-requires g c = (c.requires, kind_sort c.args.item.now (sym c.is_text_kind.ensures ∙ c.if-not-is_text_kind.false))

pub kind_with-requires : goal.kind_with-requires
kind_with-requires g c = sym c.is_text_kind.ensures ∙ c.if-not-is_text_kind.false
