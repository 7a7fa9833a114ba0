use Rattle.meta_program.proofs.OneShown.{one_shown}
use Rattle.meta_program.proofs.laws.one_text_of_a_version.Goals as goal

pub returns-clause-rejection : goal.returns-clause-rejection
returns-clause-rejection c = λ version d a b out other sets h g.
    (one_shown d (λ one two. c.one_table_of_declarations.ensures d one two sets) version a b out other h g).0

pub returns-clause-text : goal.returns-clause-text
returns-clause-text c = λ version d a b out other sets h g.
    (one_shown d (λ one two. c.one_table_of_declarations.ensures d one two sets) version a b out other h g).1
