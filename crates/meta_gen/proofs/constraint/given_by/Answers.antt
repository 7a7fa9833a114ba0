use Rattle.std.proofs.Common.{sym, ◌∙◌}
use Rattle.std.proofs.lemmas.Bool.{false≢true}
use Rattle.meta_gen.proofs.Inferring.{none_by}
use Rattle.meta_gen.proofs.constraint.given_by.Goals as goal

pub returns-clause-none : goal.returns-clause-none
returns-clause-none c = none_by _ _ c.in_ok-from.field-0 _ c.in_ok-from.was
    (λ h. false≢true (sym c.if-is_relation.false ∙ c.is_relation.ensures.1 h)) c.apply_number.ensures.none
