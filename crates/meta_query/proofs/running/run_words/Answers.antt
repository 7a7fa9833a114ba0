use Rattle.std.proofs.Common.{inl, inr, refl}
use Rattle.meta_query.proofs.running.run_words.Goals as goal

pub returns-in_default : goal.returns-in_default
returns-in_default g c = inr (c.in_default.ensures.none, refl, refl, refl)

pub returns : goal.returns
returns g c = inl (c.in-Some.command, c.in-Some.ensures.some, c.run_answerer.ensures.ran)
