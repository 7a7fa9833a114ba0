use Rattle.std.proofs.Common.{◌∙◌, refl, sym}
use Rattle.meta_file_types.proofs.Deriving.{derive_means, derive_extends}
use Rattle.meta_file_types.proofs.types.Types.derive.Goals as goal

pub returns-clause-means : goal.returns-clause-means
returns-clause-means c = λ s m h.
    derive_means c.args.self.now c.derived.new.vars s m c.args.variable h c.args.function c.args.word.now c.args.after.now c.args.function
    refl (sym c.if-not-may_be_derived_from.false ∙ c.may_be_derived_from.ensures)
    (sym c.if-has_long_name.false ∙ c.has_long_name.ensures) (sym c.if-not-branch.false ∙ c.in_ok-can_derive.ensures)
    c.derived.result c.in_ok-derived.field-0 c.derived.ensures.derives c.in_ok-derived.was

pub returns-clause-extends : goal.returns-clause-extends
returns-clause-extends c = λ s m h.
    derive_extends c.args.self.now c.derived.new.vars s m c.args.variable h c.args.function c.args.word.now c.args.after.now c.args.function
    refl (sym c.if-not-may_be_derived_from.false ∙ c.may_be_derived_from.ensures)
    (sym c.if-has_long_name.false ∙ c.has_long_name.ensures) (sym c.if-not-branch.false ∙ c.in_ok-can_derive.ensures)
    c.derived.result c.in_ok-derived.field-0 c.derived.ensures.derives c.in_ok-derived.was
