use Rattle.std.proofs.Common.{inl, inr, refl}
use Rattle.meta_program.proofs.tool.attempt.Goals as goal

pub returns-in-None : goal.returns-in-None
returns-in-None g c = inr (c.in-None.ensures.none, refl, refl, refl)

pub returns-in-Some : goal.returns-in-Some
returns-in-Some g c = inl (c.in-Some.tool, c.in-Some.ensures.some, c.run_answerer.ensures.ran)
