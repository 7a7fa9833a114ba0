use Rattle.meta_gen.proofs.OneDeclared.{one_declared}
use Rattle.meta_gen.proofs.laws.one_table_of_declarations.Goals as goal

pub returns : goal.returns
returns c = one_declared c.one_table_of_an_instruction_set.ensures c.one_table_of_a_group.ensures
