use Rattle.meta_file_syntax.proofs.Utf8.{laid_is_read}
use Rattle.meta_file_syntax.proofs.writing.what_is_laid_is_read.Goals as goal

pub returns : goal.returns
returns c = laid_is_read
