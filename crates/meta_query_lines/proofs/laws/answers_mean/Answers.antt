use Rattle.meta_lines.specs.Lines.{lines_of}
use Rattle.meta_query_lines.proofs.Meant.{answers_mean, reply_means}
use Rattle.meta_query_lines.proofs.laws.answers_mean.Goals as goal

pub returns-clause-input : goal.returns-clause-input
returns-clause-input c = λ d t input answers made means infers are. answers_mean d t made means infers (lines_of input) answers are

pub returns-clause-line : goal.returns-clause-line
returns-clause-line c = λ d t made means infers line reply h. reply_means d t made means infers line reply h
