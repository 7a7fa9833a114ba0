use Rattle.meta_file_reader.proofs.Refusals.{exactly}
use Rattle.meta_file_reader.proofs.Rewritten.{writable}
use Rattle.meta_file_reader.proofs.laws.what_is_read_can_be_written.Goals as goal

pub returns-clause-tokens : goal.returns-clause-tokens
returns-clause-tokens c = writable

pub returns-clause-again : goal.returns-clause-again
returns-clause-again c = λ text is e. let read = (exactly text is).0 e in
    c.what_is_written_is_read.ensures.read is read.0 (writable text is read.1)
