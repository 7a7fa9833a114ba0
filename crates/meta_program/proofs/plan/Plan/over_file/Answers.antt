use Rattle.meta_program.specs.declared.plan.Over.TheVariants.{File}
use Rattle.meta_program.proofs.NotWrong.{wrong_if_any}
use Rattle.std.proofs.Common.{ℕ, List, subst}
use Rattle.meta_program.specs.Over.{AskOverFile}
use Rattle.meta_program.proofs.plan.Plan.over_file.Goals as goal

pub of_check-requires-clause-over : goal.of_check-requires-clause-over
of_check-requires-clause-over c =
    subst (λ (asked : List (List ℕ)). AskOverFile c.args._words.now c.args.path.now asked) c.in-Some.ensures.some c.requires.over

pub returns-in-Some-parse : goal.returns-in-Some-parse
returns-in-Some-parse c =
    (c.requires.work, c.args.asked.now, c.requires.over, c.in-Some-parse.ensures.some, c.in_default.ensures.none)

pub returns-in-None : goal.returns-in-None
returns-in-None c = (
  c.requires.work,
  c.requires.over,
  (λ asks. c.in-None.ensures.none asks.0 asks.1),
  c.in_default.ensures.none,
  wrong_if_any (File c.args.path c.args.asked) c.of-wrong.result c.of-wrong.ensures.some c.of-wrong.ensures.none,
)
