use Rattle.std.proofs.Common.{rules}
use Rattle.meta_table_reader.proofs.reading.read_tables.Goals as goal

pub returns-in-Err-clause-refused : goal.returns-in-Err-clause-refused
returns-in-Err-clause-refused c = search rules
