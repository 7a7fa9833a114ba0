use Rattle.std.proofs.Common.{◌∙◌}
use Rattle.meta_file_types.proofs.Inserted.{word_inserted}
use Rattle.meta_file_types.proofs.words.Words.insert.Goals as goal

pub returns : goal.returns
returns c =
    word_inserted c.args.self.now (record { map = c.insert.new.self }) c.in_ok-key.key c.args.word.now c.args.kept
    (c.in_ok-key.ensures.items ∙ c.as_slice.ensures) c.in_ok-insert.ensures.entries
