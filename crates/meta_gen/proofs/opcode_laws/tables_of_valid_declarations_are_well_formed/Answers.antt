use Rattle.meta_gen.proofs.Valid.{valid_tables}
use Rattle.meta_gen.proofs.opcode_laws.tables_of_valid_declarations_are_well_formed.Goals as goal

pub returns : goal.returns
returns c = valid_tables
