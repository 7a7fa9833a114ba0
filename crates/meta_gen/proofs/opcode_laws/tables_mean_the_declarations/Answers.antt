use Rattle.meta_gen.proofs.Decoded.{tables_of_mean}
use Rattle.meta_gen.proofs.opcode_laws.tables_mean_the_declarations.Goals as goal

pub returns : goal.returns
returns c = tables_of_mean
