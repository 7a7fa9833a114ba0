use Rattle.meta_explain.proofs.Numbered.{some_numbered, is_numbered}
use Rattle.meta_explain.proofs.sets.type_of.Goals as goal

pub unwrap-requires : goal.unwrap-requires
unwrap-requires c = some_numbered _ c.args.number c.requires c.from_number.ensures.none

pub returns : goal.returns
returns c = is_numbered _ _ c.args.number c.requires c.unwrap.ensures c.from_number.ensures.found
