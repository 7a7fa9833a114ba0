use Rattle.meta_unique.proofs.Indexes.{finds_some, found_at, found_only}
use Rattle.meta_unique.proofs.unique_table.UniqueTable.index_of.Goals as goal

pub unwrap-requires : goal.unwrap-requires
unwrap-requires g c = finds_some _ _ _ _ c.self.view_is c.self.invariant c.args.entry c.get.result c.get.ensures.value c.requires

pub returns-clause-index : goal.returns-clause-index
returns-clause-index g c =
    found_at _ _ _ _ c.self.view_is c.self.invariant c.args.entry c.get.result c.unwrap.result c.get.ensures.value c.unwrap.ensures

pub returns-clause-only : goal.returns-clause-only
returns-clause-only g c =
    λ i h. found_only _ _ _ _ c.self.view_is c.self.invariant c.args.entry c.get.result c.unwrap.result i
    c.get.ensures.value c.unwrap.ensures h
