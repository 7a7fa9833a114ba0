use Rattle.meta_file_describe.proofs.Inserted.{counted}
use Rattle.meta_file_describe.proofs.words.NameCounts.add.Goals as goal

pub returns : goal.returns
returns c =
    counted c.args.self.now (record { counts = c.insert.new.self }) c.in_ok-key.key c.args.name.now _ _ c.in_ok-key.ensures.items
    c.in_ok-insert.ensures.entries cc
