use Rattle.std.proofs.Common.{◌∙◌, ℕ, List, sym, subst}
use Rattle.meta_program.specs.Over.{AskOverFile}
use Rattle.meta_program.specs.Names.{check_words}
use Rattle.meta_program.proofs.NotWrong.{no_truth}
use Rattle.meta_program.proofs.plan.Plan.of_check.Goals as goal

pub returns-then-is_input : goal.returns-then-is_input
returns-then-is_input c = (
  c.requires.work,
  subst (λ (path : List ℕ). AskOverFile c.args._words.now path (check_words c.args.names)) (c.is_input.ensures.0 c.if-is_input.true)
      c.requires.over,
)

pub returns : goal.returns
returns c = (c.requires.work, c.requires.over, λ is. no_truth (sym c.if-is_input.false ∙ c.is_input.ensures.1 is))
