use Rattle.meta_flags.proofs.SameServed.{same_served}
use Rattle.meta_flags.proofs.laws.tables_serve_what_is_declared.Goals as goal

pub returns : goal.returns
returns c = λ g t made. same_served g t made
