use Rattle.meta_file_declare.proofs.Naming.{word_inserted}
use Rattle.meta_file_declare.proofs.insts.FormatWords.insert.Goals as goal

pub returns : goal.returns
returns c = word_inserted c.args.self.now (record { map = c.insert.new.self }) c.in_ok-key.key c.args.word.now c.args.kept
    c.in_ok-key.ensures.items c.in_ok-insert.ensures.updates
