use Rattle.std.proofs.Common.{ap}
use Rattle.meta_typevar.specs.Chained.{functions_of}
use Rattle.meta_typevar.proofs.Fixing.{only_found, only_none}
use Rattle.meta_typevar.proofs.type_set.TypeSet.only_type.Goals as goal

pub returns-clause-found : goal.returns-clause-found
returns-clause-found c = only_found _ _ _ (ap functions_of c.as_slice.ensures) c.fixed_along.ensures.found

pub returns-clause-none : goal.returns-clause-none
returns-clause-none c = only_none _ _ _ (ap functions_of c.as_slice.ensures) c.fixed_along.ensures.none
