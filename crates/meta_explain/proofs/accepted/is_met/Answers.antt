use Rattle.std.proofs.Common.{◌≡◌, ◌↔◌, IsTrue, true, refl, sym, ◌∙◌, ap, subst}
use Rattle.meta_gen.specs.Constraint.{entry_of}
use Rattle.meta_gen.specs.Demand.{number_constraint_demanded}
use Rattle.meta_explain.specs.Serving.{IsMet}
use Rattle.meta_explain.proofs.accepted.is_met.Goals as goal

pub returns-in-Number : goal.returns-in-Number
returns-in-Number c =
    subst (λ x. IsTrue true ↔ IsMet c.args.tables.now (entry_of c.args.entry) x)
    (ap number_constraint_demanded (sym c.in-Number.is) ∙ c.demanded.ensures) (λ t. tt, λ m. refl)

pub returns-in-OfSet : goal.returns-in-OfSet
returns-in-OfSet c =
    subst (λ x. IsTrue c.has_member.result ↔ IsMet c.args.tables.now (entry_of c.args.entry) x)
    (ap number_constraint_demanded (sym c.in-OfSet.is) ∙ c.demanded.ensures) c.has_member.ensures

pub returns-in-Controlling : goal.returns-in-Controlling
returns-in-Controlling c =
    subst (λ x. IsTrue c.has_control.result ↔ IsMet c.args.tables.now (entry_of c.args.entry) x)
    (ap number_constraint_demanded (sym c.in-Controlling.is) ∙ c.demanded.ensures) c.has_control.ensures

pub returns-in-By : goal.returns-in-By
returns-in-By c =
    subst (λ x. IsTrue c.has_control-in-By.result ↔ IsMet c.args.tables.now (entry_of c.args.entry) x)
    (ap number_constraint_demanded (sym c.in-By.is) ∙ c.demanded.ensures) c.has_control-in-By.ensures
