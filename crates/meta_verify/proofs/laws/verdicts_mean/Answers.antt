use Rattle.meta_verify.proofs.Meaning.{answered_means, verdict_means, explained_means, fed_means, led_means}
use Rattle.meta_verify.proofs.WhyLemmas.{over_declarations}
use Rattle.meta_verify.proofs.laws.verdicts_mean.Goals as goal

pub returns-clause-line : goal.returns-clause-line
returns-clause-line c = λ d t made means lines n answer h. answered_means d t made means lines n answer h

pub returns-clause-verdict : goal.returns-clause-verdict
returns-clause-verdict c = λ d t valid made means input is_rejection text h.
    verdict_means d.set t made means valid.set input is_rejection text h

pub returns-clause-explained : goal.returns-clause-explained
returns-clause-explained c = λ d t valid made means input is_rejection text h.
    over_declarations d t made input is_rejection text (explained_means d.set t made means valid.set input is_rejection text h)

pub returns-clause-fed : goal.returns-clause-fed
returns-clause-fed c = λ d t valid made means env named line answer after. fed_means d t made means valid env named line answer after

pub returns-clause-led : goal.returns-clause-led
returns-clause-led c = λ d t valid made means env named lines after. led_means d t made means valid env named lines after
