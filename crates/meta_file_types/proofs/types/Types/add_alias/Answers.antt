use Rattle.std.proofs.Common.{◌∙◌, sym, ap, subst, refl}
use Rattle.std.specs.Prelude.{Result}
use Rattle.meta_file_types.specs.declared.refused.Reason.{Reason}
use Rattle.meta_file_types.specs.declared.words.Meaning.TheVariants as meanings
use Rattle.meta_file_types.specs.declared.types.Types.{Types}
use Rattle.meta_file_types.specs.Meant.{MeantType, TypeSense}
use Rattle.meta_file_types.specs.Said.{after_type, with_alias}
use Rattle.meta_file_types.specs.Telling.{reason_in}
use Rattle.meta_file_types.specs.Registered.{Extends}
use Rattle.meta_file_types.specs.Held.{registered, Holds}
use Rattle.meta_file_types.proofs.Checked.{word_free, refuses_residual}
use Rattle.meta_file_types.proofs.Growing.{word_held}
use Rattle.meta_file_types.proofs.Steps.{alias_word, alias_right}
use Rattle.meta_file_types.proofs.types.Types.add_alias.Goals as goal

pub returns-clause-tells : goal.returns-clause-tells
returns-clause-tells g c =
    ap reason_in (
    alias_right g.said.words c.args.item.now c.in_ok-variable.ensures.means.meaning
    (sym c.is_text_alias.ensures ∙ c.if-not-is_text_alias.false) (sym c.has_docs.ensures
    ∙ c.if-has_docs.false) c.in_ok-variable.ensures.means.is
    (c.in_ok-check_word.ensures (after_type g.said c.args.item.now.means) c.in_ok-variable.ensures.holds)
    )

pub returns-clause-added : goal.returns-clause-added
returns-clause-added g c =
    let right =
    alias_right g.said.words c.args.item.now c.in_ok-variable.ensures.means.meaning
    (sym c.is_text_alias.ensures ∙ c.if-not-is_text_alias.false) (sym c.has_docs.ensures
    ∙ c.if-has_docs.false) c.in_ok-variable.ensures.means.is
    (c.in_ok-check_word.ensures (after_type g.said c.args.item.now.means) c.in_ok-variable.ensures.holds) in
    let after = after_type g.said c.args.item.now.means in
    let now : Types = record {
      vars = c.type_var.new.self.vars;
      plain = c.type_var.new.self.plain;
      words = c.insert.new.self;
    } in
    subst (λ (a : Result MeantType Reason). Holds now (with_alias after c.args.item.now.word c.args.place a)) (sym right)
    (word_held (registered c.type_var.new.self after) c.type_var.new.self.plain.items g.said.roots g.said.words
    (record { word = c.args.item.now.word; place = c.args.place; sense = TypeSense c.in_ok-variable.ensures.means.meaning })
    c.type_var.new.self.words c.insert.new.self (record { place = c.args.place; meaning = meanings.Type c.in_ok-variable.variable })
    c.in_ok-variable.ensures.holds (record { place = refl; meaning = c.in_ok-variable.ensures.means.by })
    (word_free g.said.words c.args.item.now.word (c.in_ok-check_word.ensures after c.in_ok-variable.ensures.holds)) c.in_ok-insert.ensures)

pub returns-clause-extends : goal.returns-clause-extends
returns-clause-extends g c =
    let right =
    alias_right g.said.words c.args.item.now c.in_ok-variable.ensures.means.meaning
    (sym c.is_text_alias.ensures ∙ c.if-not-is_text_alias.false) (sym c.has_docs.ensures
    ∙ c.if-has_docs.false) c.in_ok-variable.ensures.means.is
    (c.in_ok-check_word.ensures (after_type g.said c.args.item.now.means) c.in_ok-variable.ensures.holds) in
    let after = after_type g.said c.args.item.now.means in
    let now : Types = record {
      vars = c.type_var.new.self.vars;
      plain = c.type_var.new.self.plain;
      words = c.insert.new.self;
    } in
    subst (λ (a : Result MeantType Reason). Extends (registered c.args.self.now g.said)
    (registered now (with_alias after c.args.item.now.word c.args.place a))) (sym right) c.in_ok-variable.ensures.extends

pub returns-in_err-check_word-clause-tells : goal.returns-in_err-check_word-clause-tells
returns-in_err-check_word-clause-tells g c =
    let after = after_type g.said c.args.item.now.means in
    refuses_residual c.from_residual-in_err-check_word.result c.in_err-check_word.field-0.0 _ c.from_residual-in_err-check_word.ensures
    (alias_word g.said.words c.args.item.now c.in_err-check_word.field-0.0 (registered c.type_var.new.self after) c.in_ok-variable.variable
    (sym c.is_text_alias.ensures ∙ c.if-not-is_text_alias.false) (sym c.has_docs.ensures
    ∙ c.if-has_docs.false) c.in_ok-variable.ensures.means
    (c.in_err-check_word.ensures after c.in_ok-variable.ensures.holds))
