use Rattle.meta_file_syntax.specs.Laid.{laid}
use Rattle.meta_file_syntax.specs.Spelling.{spelled_all}
use Rattle.meta_file_reader.proofs.Refusals.{again}
use Rattle.meta_file_reader.proofs.Written.{all_reads}
use Rattle.meta_file_reader.proofs.laws.what_is_written_is_read.Goals as goal

pub returns-clause-spelled : goal.returns-clause-spelled
returns-clause-spelled c = λ is can. all_reads is (c.what_is_laid_is_read.ensures (spelled_all is) can)

pub returns-clause-read : goal.returns-clause-read
returns-clause-read c = λ is fit can. again (laid (spelled_all is)) is fit
    (all_reads is (c.what_is_laid_is_read.ensures (spelled_all is) can))
