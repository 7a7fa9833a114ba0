use Rattle.meta_file_describe.proofs.Inserted.{word_kept}
use Rattle.meta_file_describe.proofs.words.Words.keep.Goals as goal

pub returns : goal.returns
returns c =
    word_kept c.args.self.now (record { given = c.insert.new.self }) c.in_ok-key.key c.args.word.now c.args.number
    c.in_ok-key.ensures.items c.in_ok-insert.ensures.entries
