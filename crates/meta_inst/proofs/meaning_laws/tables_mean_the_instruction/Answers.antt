use Rattle.meta_inst.proofs.Decoding.{tables_mean}
use Rattle.meta_inst.proofs.meaning_laws.tables_mean_the_instruction.Goals as goal

pub returns : goal.returns
returns c = tables_mean
