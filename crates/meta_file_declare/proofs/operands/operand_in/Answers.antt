use Rattle.std.proofs.Common.{◌∙◌, subst}
use Rattle.std.proofs.lemmas.Result.{err_from_is_err_and}
use Rattle.meta_file_types.specs.Registered.{Extends}
use Rattle.meta_file_types.specs.Operands.{after_operand}
use Rattle.meta_file_types.specs.Held.{registered, Holds}
use Rattle.meta_file_declare.proofs.MadeOperands.{at_place, made, not_made}
use Rattle.meta_file_declare.proofs.operands.operand_in.Goals as goal

pub returns-in_err-kind-clause-means : goal.returns-in_err-kind-clause-means
returns-in_err-kind-clause-means g c = λ o at.
    let p = err_from_is_err_and c.from_residual.result c.from_residual.ensures.1 in
    let same = at_place c.args.items.now c.args.place c.index-items-place.result o c.index-items-place.is at in
    rw (p.1, p.2) (not_made g.said.words c.index-items-place.result o c.in_err-kind.field-0.0 same c.in_err-kind.ensures.means)

pub returns-clause-means : goal.returns-clause-means
returns-clause-means g c = λ o at.
    let same = at_place c.args.items.now c.args.place c.index-items-place.result o c.index-items-place.is at in
    made c.operand_kind.new.self g.said c.index-items-place.result o c.in_ok-kind.kind c.documented.result same
    c.in_ok-kind.ensures.means (c.documented.ensures.name ∙ (c.new.ensures.name ∙ (c.in_ok-name.ensures
    ∙ c.as_slice.ensures)))
    (c.documented.ensures.doc ∙ c.in_ok-doc.ensures) (c.documented.ensures.kind ∙ c.new.ensures.kind)

pub returns-clause-holds : goal.returns-clause-holds
returns-clause-holds g c = λ o at.
    let same = at_place c.args.items.now c.args.place c.index-items-place.result o c.index-items-place.is at in
    subst (λ x. Holds c.operand_kind.new.self (after_operand g.said x.what)) same c.in_ok-kind.ensures.holds

pub returns-clause-extends : goal.returns-clause-extends
returns-clause-extends g c = λ o at.
    let same = at_place c.args.items.now c.args.place c.index-items-place.result o c.index-items-place.is at in
    subst (λ x. Extends (registered c.args.types.now g.said) (registered c.operand_kind.new.self
    (after_operand g.said x.what))) same c.in_ok-kind.ensures.extends
