use Rattle.meta_audit.proofs.places.Places.same_beside.Goals as goal

pub returns-in-First : goal.returns-in-First
returns-in-First c = rw c.in-First.is c.same_numbers.ensures

pub returns-in-Second : goal.returns-in-Second
returns-in-Second c = rw c.in-Second.is c.same_numbers-in-Second.ensures
