use Rattle.meta_program.proofs.Counted.{one_line}
use Rattle.meta_program.proofs.laws.one_check_line.Goals as goal

pub returns : goal.returns
returns c = λ d line other sets h g. one_line d (λ one two. c.one_table_of_declarations.ensures d one two sets) line other h g
