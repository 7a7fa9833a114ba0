use Rattle.meta_lines.proofs.pieces.Pieces.is_done.Goals as goal

pub returns-in-Some-clause-more : goal.returns-in-Some-clause-more
returns-in-Some-clause-more c = λ _. (_, _, c.in-Some.ensures.steps)
