use Rattle.std.proofs.Common.{ℕ, List, subst}
use Rattle.meta_program.specs.Tool.{AreToolWords}
use Rattle.meta_program.specs.declared.plan.Over.TheVariants.{Shared}
use Rattle.meta_program.proofs.NotWrong.{wrong_if_any}
use Rattle.meta_program.proofs.plan.Plan.over_shared.Goals as goal

pub returns-in-Some : goal.returns-in-Some
returns-in-Some c = (
  c.requires.work,
  subst (λ (words : List (List ℕ)). AreToolWords c.in-Some.tool words) c.requires.same c.in-Some.ensures.some,
  c.requires.over,
)

pub returns-in-None : goal.returns-in-None
returns-in-None c = (
  c.requires.work,
  (c.requires.same, c.requires.over),
  (λ asks. c.in-None.ensures.none asks.0 asks.1),
  tt,
  wrong_if_any (Shared c.args.asked) c.of-wrong.result c.of-wrong.ensures.some c.of-wrong.ensures.none,
)
