use Rattle.std.proofs.Common.{◌+◌, refl}
use Rattle.meta_verify.specs.Verdict.{wrong_text}
use Rattle.meta_verify.proofs.WhyLemmas.{nothing_else}
use Rattle.meta_verify.proofs.laws.explained_verdicts_are_verdicts.Goals as goal

pub returns-clause-accepted : goal.returns-clause-accepted
returns-clause-accepted c = λ d input text. (λ h. h, λ h. h)

pub returns-clause-rejected : goal.returns-clause-rejected
returns-clause-rejected c = λ d input text (tables, made, (n, reason, first, more, told, is)).
    (wrong_text (n + 1) reason, (n, reason, first, refl), (n + 1, reason, more, refl, is, nothing_else _ _ _ reason more told))
