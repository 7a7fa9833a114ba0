use Rattle.std.proofs.Common.{sym, ap, ◌∙◌}
use Rattle.meta_gen.specs.Demand.{number_constraint_demanded}
use Rattle.meta_table_text.specs.Fits.{asks_of_no_second}
use Rattle.meta_table_text.proofs.fitting.asks_of_no_second.Goals as goal

pub returns-in-Number : goal.returns-in-Number
returns-in-Number c = ap (λ d. asks_of_no_second (number_constraint_demanded d)) (sym c.in-Number.is)
    ∙ ap asks_of_no_second c.demanded.ensures

pub returns-in-OfSet : goal.returns-in-OfSet
returns-in-OfSet c = ap (λ d. asks_of_no_second (number_constraint_demanded d)) (sym c.in-OfSet.is)
    ∙ ap asks_of_no_second c.demanded.ensures

pub returns-in-Controlling : goal.returns-in-Controlling
returns-in-Controlling c = c.is_first.ensures ∙ ap (λ d. asks_of_no_second (number_constraint_demanded d)) (sym c.in-Controlling.is)
    ∙ ap asks_of_no_second c.demanded.ensures

pub returns-in-By : goal.returns-in-By
returns-in-By c = c.is_first-in-By.ensures ∙ ap (λ d. asks_of_no_second (number_constraint_demanded d)) (sym c.in-By.is)
    ∙ ap asks_of_no_second c.demanded.ensures
