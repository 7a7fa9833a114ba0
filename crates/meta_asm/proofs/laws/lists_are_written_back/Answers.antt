use Rattle.meta_asm.proofs.BackLemmas.{back_by_tables, back_by_declarations}
use Rattle.meta_asm.proofs.laws.lists_are_written_back.Goals as goal

pub returns : goal.returns
returns c = record { tables = back_by_tables; declared = back_by_declarations }
