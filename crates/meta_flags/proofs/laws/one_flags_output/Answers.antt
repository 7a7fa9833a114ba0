use Rattle.meta_lines.specs.Lines.{lines_of}
use Rattle.meta_flags.specs.FlagAnswers.{initial_of}
use Rattle.meta_flags.specs.FlagsOutput.{first_served}
use Rattle.meta_flags.proofs.OneOutput.{one_output}
use Rattle.meta_flags.proofs.laws.one_flags_output.Goals as goal

pub returns : goal.returns
returns c = λ d input out other a b. one_output (first_served d.groups) (lines_of input) (initial_of (first_served d.groups)) out other a b
