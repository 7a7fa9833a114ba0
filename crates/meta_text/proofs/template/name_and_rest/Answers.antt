use Rattle.std.proofs.Common.{◌∷◌, ap}
use Rattle.meta_text.specs.Filled.{by_turns, filled}
use Rattle.meta_text.proofs.template.name_and_rest.Goals as goal

pub returns-in-Some-clause-value : goal.returns-in-Some-clause-value
unfolding filled
returns-in-Some-clause-value c = λ holes texts part. ap (λ parts. by_turns holes texts (part ∷ parts)) c.in-Some.ensures.parts

pub returns-in-None-clause-value : goal.returns-in-None-clause-value
unfolding filled
returns-in-None-clause-value c = λ holes texts part. ap (λ parts. by_turns holes texts (part ∷ parts)) c.in-None.ensures.parts
