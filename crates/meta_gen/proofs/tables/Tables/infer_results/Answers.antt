use Rattle.std.proofs.Common.{ap}
use Rattle.meta_gen.specs.WholeTables.{WholeTables}
use Rattle.meta_gen.proofs.tables.Tables.infer_results.Goals as goal

pub returns : goal.returns
returns c = rw (ap (λ (t : WholeTables). t.opcodes) c.self.view_is) at c.infer_results.ensures
