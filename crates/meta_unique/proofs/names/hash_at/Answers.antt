use Rattle.std.proofs.Common.{◌-◌, arith}
use Rattle.meta_unique.proofs.Numbered.{hashes_at}
use Rattle.meta_unique.proofs.names.hash_at.Goals as goal

pub returns : goal.returns
returns c =
    let low = c.requires.low in
    let high = c.requires.high in
    hashes_at _ _ _ _ (c.args.number - c.args.first) _ (omega arith) (omega arith) c.simple_hash.ensures
