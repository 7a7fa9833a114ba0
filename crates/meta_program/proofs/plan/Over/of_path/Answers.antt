use Rattle.std.proofs.Common.{◌∙◌, ℕ, List, refl, sym, subst}
use Rattle.meta_program.specs.Over.{AskOverFile}
use Rattle.meta_program.proofs.NoFile.{file_after, other_word}
use Rattle.meta_program.proofs.NotWrong.{no_truth}
use Rattle.meta_program.proofs.plan.Over.of_path.Goals as goal

pub returns-then-is_option : goal.returns-then-is_option
returns-then-is_option c =
    subst (λ (path : List ℕ). AskOverFile c.args.words.now path c.args.asked.now) (sym c.as_str.ensures)
    (file_after c.args.words.now c.args.first.now _ c.requires.words c.args.path.now c.args.asked.now
    (c.is_option.ensures.0 c.if-is_option.true) refl)

pub returns : goal.returns
returns c = (
  refl,
  other_word c.args.words.now c.args.first.now _ c.requires.words c.requires.no_check c.requires.no_path
      (λ is. absurd (no_truth (sym c.if-is_option.false ∙ c.is_option.ensures.1 is))),
)
