use Rattle.meta_unique.proofs.Indexes.{has_index}
use Rattle.meta_unique.proofs.unique_table.UniqueTable.contains.Goals as goal

pub returns : goal.returns
returns g c =
    has_index _ _ _ _ c.self.view_is c.self.invariant c.args.entry c.get.result c.is_some.result c.get.ensures.value c.is_some.ensures
