use Rattle.std.proofs.Common.{ap}
use Rattle.meta_gen.specs.WholeTables.{WholeTables}
use Rattle.meta_gen.proofs.tables.Tables.infer_control.Goals as goal

pub returns-clause-meaning : goal.returns-clause-meaning
returns-clause-meaning c = rw (ap (λ (t : WholeTables). t.opcodes) c.self.view_is) at c.infer_control.ensures.meaning
