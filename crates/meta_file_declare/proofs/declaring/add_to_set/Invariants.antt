use Rattle.meta_file_declare.specs.SaidOfInsts.{with_types}
use Rattle.meta_file_declare.proofs.declaring.add_to_set.Given as goal

-- what the items above declare
abbrev pub ghost-add : goal.ghost-add
ghost-add g a = g.above.types

-- and what the item does of types and kinds
abbrev pub ghost-add-2 : goal.ghost-add-2
ghost-add-2 g a = with_types g.above a.place a.item.now
