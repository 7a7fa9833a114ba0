use Rattle.meta_file_reader.proofs.LineLaws.{lines_alone, text_lines_alone}
use Rattle.meta_file_reader.proofs.laws.lines_are_read_alone.Goals as goal

pub returns-clause-bytes : goal.returns-clause-bytes
returns-clause-bytes c = lines_alone

pub returns-clause-texts : goal.returns-clause-texts
returns-clause-texts c = text_lines_alone
