use Rattle.meta_gen.proofs.OneInstructionSet.{tables_same}
use Rattle.meta_gen.proofs.opcode_laws.one_table_of_an_instruction_set.Goals as goal

pub returns : goal.returns
returns c = tables_same
