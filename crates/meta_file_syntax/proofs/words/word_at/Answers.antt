use Rattle.meta_file_syntax.proofs.Tables.{placed}
use Rattle.meta_file_syntax.proofs.words.word_at.Goals as goal

pub returns : goal.returns
returns g c = placed c.args.table.now c.args.place _ c.requires
