use Rattle.meta_typevar.proofs.Fixing.{none_of_several, first_of_one, first_of_none}
use Rattle.meta_typevar.proofs.fixed.only_member.Goals as goal

pub returns-then-size-ne1-clause-none : goal.returns-then-size-ne1-clause-none
returns-then-size-ne1-clause-none c = none_of_several _ (λ one. c.if-size-ne1.true (c.size.ensures.one.1 one))

pub returns-clause-found : goal.returns-clause-found
returns-clause-found c = first_of_one _ c.first_member.result (c.size.ensures.one.0 c.if-size-ne1.false) c.first_member.ensures.found

pub returns-clause-none : goal.returns-clause-none
returns-clause-none c = first_of_none _ c.first_member.result c.first_member.ensures.none
