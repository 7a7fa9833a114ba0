use Rattle.std.proofs.Common.{refl, arith}
use Rattle.std.proofs.lemmas.List.{nil_from_length}
use Rattle.meta_program.proofs.NoFile.{other_word}
use Rattle.meta_program.proofs.plan.Over.of_option.Goals as goal

pub returns-in-empty : goal.returns-in-empty
returns-in-empty c = (
  refl,
  other_word c.args.words.now c.args.first.now c.args.after.now c.requires.words c.requires.no_check c.requires.no_path
      (λ is. nil_from_length c.args.after.now (omega (arith, c.in-empty.len_below))),
)
