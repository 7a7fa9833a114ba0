use Rattle.meta_table_reader.proofs.TablesTold.{one_reading}
use Rattle.meta_table_reader.proofs.laws.a_text_reads_as_one.Goals as goal

pub returns : goal.returns
returns c = one_reading
