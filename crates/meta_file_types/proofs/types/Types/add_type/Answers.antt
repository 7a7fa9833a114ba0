use Rattle.std.proofs.Common.{◌∙◌, sym, ap, subst}
use Rattle.std.specs.Prelude.{Result}
use Rattle.meta_file_types.specs.declared.refused.Reason.{Reason}
use Rattle.meta_file_types.specs.Meant.{MeantRoot}
use Rattle.meta_file_types.specs.Said.{after_set, with_root, root_of}
use Rattle.meta_file_types.specs.Telling.{reason_in}
use Rattle.meta_file_types.specs.Held.{registered, Holds}
use Rattle.meta_file_types.specs.Registered.{Extends}
use Rattle.meta_file_types.proofs.Checked.{word_free, refuses_residual}
use Rattle.meta_file_types.proofs.Staying.{extends_more}
use Rattle.meta_file_types.proofs.Steps.{root_word, root_right}
use Rattle.meta_file_types.proofs.types.Types.add_type.Goals as goal

pub returns-clause-tells : goal.returns-clause-tells
returns-clause-tells g c =
    ap reason_in (
    root_right g.said.words c.args.item.now c.in_ok-set.set (sym c.is_text_type.ensures ∙ c.if-not-is_text_type.false)
    c.in_ok-set.ensures.means (c.in_ok-check_word.ensures (after_set g.said c.args.item.now.set) c.in_ok-set.ensures.holds)
    )

pub returns-clause-added : goal.returns-clause-added
returns-clause-added g c =
    let right =
    root_right g.said.words c.args.item.now c.in_ok-set.set (sym c.is_text_type.ensures ∙ c.if-not-is_text_type.false)
    c.in_ok-set.ensures.means (c.in_ok-check_word.ensures (after_set g.said c.args.item.now.set) c.in_ok-set.ensures.holds) in
    subst (λ (a : Result MeantRoot Reason). Holds c.declare_root.new.self
    (with_root (after_set g.said c.args.item.now.set) c.args.item.now.word c.args.place a)) (sym right) c.in_ok-declare_root.ensures.holds

pub returns-clause-extends : goal.returns-clause-extends
returns-clause-extends g c =
    let right =
    root_right g.said.words c.args.item.now c.in_ok-set.set (sym c.is_text_type.ensures ∙ c.if-not-is_text_type.false)
    c.in_ok-set.ensures.means (c.in_ok-check_word.ensures (after_set g.said c.args.item.now.set) c.in_ok-set.ensures.holds) in
    let after = after_set g.said c.args.item.now.set in
    extends_more (registered c.args.self.now g.said) (registered c.set_of.new.self after)
    (registered c.declare_root.new.self (with_root after c.args.item.now.word c.args.place (root_of g.said.words c.args.item.now)))
    c.in_ok-set.ensures.extends
    (subst (λ (a : Result MeantRoot Reason). Extends (registered c.set_of.new.self after)
    (registered c.declare_root.new.self (with_root after c.args.item.now.word c.args.place a)))
    (sym right) c.in_ok-declare_root.ensures.extends)

pub returns-in_err-check_word-clause-tells : goal.returns-in_err-check_word-clause-tells
returns-in_err-check_word-clause-tells g c =
    refuses_residual c.from_residual-in_err-check_word.result c.in_err-check_word.field-0.0 _ c.from_residual-in_err-check_word.ensures
    (root_word g.said.words c.args.item.now c.in_err-check_word.field-0.0 c.in_ok-set.set
    (sym c.is_text_type.ensures ∙ c.if-not-is_text_type.false) c.in_ok-set.ensures.means
    (c.in_err-check_word.ensures (after_set g.said c.args.item.now.set) c.in_ok-set.ensures.holds))

pub declare_root-requires : goal.declare_root-requires
declare_root-requires g c = (
  c.in_ok-set.ensures.holds,
  (
    word_free g.said.words c.args.item.now.word
        (c.in_ok-check_word.ensures (after_set g.said c.args.item.now.set) c.in_ok-set.ensures.holds),
    sym c.is_text_type.ensures ∙ c.if-not-is_text_type.false,
  ),
)
