use Rattle.meta_file_reader.proofs.Refusals.{exactly, where_refused}
use Rattle.meta_file_reader.proofs.laws.what_is_read.Goals as goal

pub returns-clause-read : goal.returns-clause-read
returns-clause-read c = exactly

pub returns-clause-refused : goal.returns-clause-refused
returns-clause-refused c = where_refused
