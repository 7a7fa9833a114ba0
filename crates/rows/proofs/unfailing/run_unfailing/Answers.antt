use Rattle.std.proofs.Common.{inl, inr, arith}
use Rattle.meta_text.specs.Outside.{Rose}
use Rattle.rows.proofs.unfailing.run_unfailing.Goals as goal

-- a count that stays at 0 doesn't rise
never : Rose 0 0 → ⊥
never (inl h) = omega (arith, h)
never (inr h) = omega (arith, h)

pub returns : goal.returns
returns c = record {
  no_fault = (c.run.ensures.runs.unfailing_source (λ before after. never), c.run.ensures.runs.unfailing_sink (λ before after. never));
}
