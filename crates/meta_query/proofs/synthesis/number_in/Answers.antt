use Rattle.meta_query.proofs.synthesis.number_in.Goals as goal

pub returns-clause-some : goal.returns-clause-some
returns-clause-some c = rw c.as_bytes.ensures at c.number_u32.ensures.some

pub returns-clause-none : goal.returns-clause-none
returns-clause-none c = rw c.as_bytes.ensures at c.number_u32.ensures.none
