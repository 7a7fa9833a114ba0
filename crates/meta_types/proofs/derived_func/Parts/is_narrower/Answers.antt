use Rattle.std.proofs.Common.{rules}
use Rattle.meta_types.proofs.derived_func.Parts.is_narrower.Goals as goal

pub returns-then-is_scalar-2 : goal.returns-then-is_scalar-2
returns-then-is_scalar-2 c = search rules
