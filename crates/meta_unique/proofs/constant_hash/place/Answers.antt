use Rattle.std.proofs.Common.{Some}
use Rattle.std.proofs.lemmas.List.{map-set}
use Rattle.std.specs.Option.{option_copied}
use Rattle.meta_unique.proofs.constant_hash.place.Goals as goal

pub returns : goal.returns
returns g c = map-set option_copied c.args.table.now.items c.args.slot (Some c.args.item)
