use Rattle.meta_gen.proofs.OneTable.{one_table}
use Rattle.meta_gen.proofs.opcode_laws.one_table_has_the_parts.Goals as goal

pub returns : goal.returns
returns c = one_table
