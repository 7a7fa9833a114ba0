use Rattle.std.proofs.Common.{arith, rules}
use Rattle.std.proofs.lemmas.Grind.{common_steps}
use Rattle.meta_query.proofs.report.Counts.of.Goals as goal

pub returns-clause-type_sets : goal.returns-clause-type_sets
returns-clause-type_sets c = search rules

pub returns-clause-constraints : goal.returns-clause-constraints
returns-clause-constraints c = grind (arith, common_steps)
