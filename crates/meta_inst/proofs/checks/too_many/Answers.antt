use Rattle.std.proofs.Common.{rules}
use Rattle.meta_inst.proofs.checks.too_many.Goals as goal

pub returns-then-values-gt-MAX_OPERANDS-clause-found : goal.returns-then-values-gt-MAX_OPERANDS-clause-found
returns-then-values-gt-MAX_OPERANDS-clause-found c = search rules

pub returns-clause-none : goal.returns-clause-none
returns-clause-none c = search rules
