use Rattle.meta_table_reader.proofs.TablesTold.{one_in_version}
use Rattle.meta_table_reader.proofs.laws.a_text_tells_its_tables.Goals as goal

pub returns : goal.returns
returns c = one_in_version
