use Rattle.std.proofs.Common.{rules}
use Rattle.meta_types.proofs.derived_func.Parts.has_fixed_form.Goals as goal

pub returns-then-self : goal.returns-then-self
returns-then-self c = search rules
